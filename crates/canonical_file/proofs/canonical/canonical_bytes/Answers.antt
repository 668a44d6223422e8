-- `canonical_bytes` returns the canonical form of a file, by the laws of FileIds, ReadFiles and
-- BlockTexts.
use Rattle.std.proofs.Common.{ℕ, List, ◌++◌, length, ap, ◌∙◌, arith}
use Rattle.pdb_format.specs.ReadFiles.{database_read}
use Rattle.pdb_format.proofs.FileIds.{ids_for}
use Rattle.pdb_format.proofs.ReadFiles.{reads}
use Rattle.canonical_file.proofs.BlockTexts.{blocks_are, own_blocks, within_source}
use Rattle.canonical_file.proofs.Lengths.{file_long}
use Rattle.canonical_file.proofs.canonical.canonical_bytes.Goals as goal

pub append_head-requires-clause-ids : goal.append_head-requires-clause-ids
append_head-requires-clause-ids g c = record {
  have = c.in_ok-given.ensures.given;
  fit = ids_for c.args.file.now _ _ _ c.in_ok-given.ensures.given c.in_ok-given.ensures.fit;
  seed = c.in_ok-given.ensures.seed;
}

pub append_head-requires-clause-room : goal.append_head-requires-clause-room
append_head-requires-clause-room g c =
    let ids = c.in_ok-given.given.ids.items in
    let seed = c.in_ok-given.given.seed in
    let size = c.file_size.ensures ids seed in
    let long = file_long c.args.file.now ids seed c.know_file.ensures.good in
    let room = c.in_ok-bytes.ensures.room in
    omega arith

pub append_blocks-requires-clause-within : goal.append_blocks-requires-clause-within
append_blocks-requires-clause-within g c =
    within_source _ _ _ c.blocks-2.ensures.places
    (own_blocks _ c.bytes.result.now c.bytes.ensures.bytes c.know_file.ensures.places)

pub append_blocks-requires-clause-room : goal.append_blocks-requires-clause-room
append_blocks-requires-clause-room g c =
    let ids = c.in_ok-given.given.ids.items in
    let seed = c.in_ok-given.given.seed in
    let size = c.file_size.ensures ids seed in
    let long = file_long c.args.file.now ids seed c.know_file.ensures.good in
    let room = c.in_ok-bytes.ensures.room in
    let head = c.append_head.ensures.len in
    let kept = c.append_head.ensures.capacity in
    let own = own_blocks _ c.bytes.result.now c.bytes.ensures.bytes c.know_file.ensures.places in
    let same = ap length
    (blocks_are c.args.file.now c.bytes.result.now c.blocks-2.result.now c.blocks-2.ensures.places
    own) in
    omega arith

pub returns-clause-canonical : goal.returns-clause-canonical
returns-clause-canonical g c =
    let own = own_blocks _ c.bytes.result.now c.bytes.ensures.bytes c.know_file.ensures.places in
    let same = blocks_are c.args.file.now c.bytes.result.now c.blocks-2.result.now
    c.blocks-2.ensures.places own in
    record {
      database = database_read _ _ c.in_ok-given.given.seed;
      reads = reads c.args.file.now c.in_ok-given.given.ids.items c.in_ok-given.given.seed
          c.know_file.ensures.good c.in_ok-given.ensures.given;
      written = c.append_blocks.ensures
          ∙ ap (λ (xs : List ℕ). c.append_head.new.bytes.items ++ xs) same
          ∙ c.append_head.ensures.items;
    }
