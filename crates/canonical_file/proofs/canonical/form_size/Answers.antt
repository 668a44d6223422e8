-- `form_size` returns the size of a new file from the size of its part before the blocks, by the
-- laws of WrittenOffsets and BlockTexts.
use Rattle.std.proofs.Common.{arith, length-append}
use Rattle.heap_model.specs.Files.{blocks_in}
use Rattle.pdb_format.proofs.WrittenOffsets.{all_bytes}
use Rattle.canonical_file.proofs.BlockTexts.{blocks_long}
use Rattle.canonical_file.proofs.canonical.form_size.Goals as goal

pub returns : goal.returns
returns g c =
    let both = length-append c.args.head.now (all_bytes (blocks_in c.args.file.now)) in
    let blocks = blocks_long c.args.file.now c.blocks-2.result.now c.blocks-2.ensures.places in
    omega (arith, both, blocks, c.total_length.ensures)
