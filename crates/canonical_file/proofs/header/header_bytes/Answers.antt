-- `header_bytes` returns the bytes of the header, with this seed, by the laws of Headers.
use Rattle.std.proofs.Common.{ℕ, List, Option, ◌+◌, ◌∙◌, ap, arith}
use Rattle.heap_model.specs.Database.{Database}
use Rattle.heap_model.specs.Files.{idle, with_offsets, first_block, block_offset}
use Rattle.pdb_format.specs.Blocks.{bytes_at}
use Rattle.pdb_format.specs.ReadFiles.{database_read}
use Rattle.canonical_file.proofs.Headers.{header_placed}
use Rattle.canonical_file.proofs.header.header_bytes.Goals as goal

pub returns : goal.returns
returns g c = λ ids.
    let file = c.args.file.now in
    let d : Database (Option (List ℕ)) = database_read file ids c.args.seed in
    c.to_bytes.ensures.is (with_offsets (first_block d) (idle d))
    (header_placed file ids c.args.seed c.header_with_seed-header.result c.block-app.result c.block.result (c.first_place-app_at.result + c.block_length.result) c.block_offset.result c.block_offset-2.result
    c.header_with_seed-header.ensures.values c.header_with_seed-header.ensures.entry_count
    c.block-app.ensures.is c.block-app.ensures.within c.block.ensures.is
    (omega (arith, c.first_place-app_at.ensures.is, c.block_length.ensures))
    (c.block_offset.ensures file
    ∙ ap (λ (n : ℕ). block_offset n (bytes_at file c.block-app.result))
    c.first_place-app_at.ensures.is) (c.block_offset-2.ensures file))
