-- `canonical_head` returns the part of the canonical form of a file before its blocks, by the laws
-- of Canonicals and WrittenOffsets.
use Rattle.std.proofs.Common.{◌++◌}
use Rattle.heap_model.specs.Files.{blocks_in}
use Rattle.pdb_format.proofs.FileIds.{ids_for}
use Rattle.pdb_format.proofs.WrittenOffsets.{all_bytes}
use Rattle.canonical_file.specs.Canonical.{GetsIds}
use Rattle.canonical_file.proofs.Canonicals.{canonical_if}
use Rattle.canonical_file.proofs.canonical.canonical_head.Goals as goal

pub head_of-requires-clause-ids : goal.head_of-requires-clause-ids
head_of-requires-clause-ids g c = record {
  have = c.in_ok-given.ensures.given;
  fit = ids_for c.args.file.now _ _ _ c.in_ok-given.ensures.given c.in_ok-given.ensures.fit;
  seed = c.in_ok-given.ensures.seed;
}

pub returns-clause-canonical : goal.returns-clause-canonical
returns-clause-canonical g c =
    let file = c.args.file.now in
    let ids : GetsIds file c.in_ok-given.given = record {
      have = c.in_ok-given.ensures.given;
      fit = ids_for file _ _ _ c.in_ok-given.ensures.given c.in_ok-given.ensures.fit;
      seed = c.in_ok-given.ensures.seed;
    } in
    canonical_if file _ (λ head. head.items ++ all_bytes (blocks_in file)) _
    c.know_file.ensures.good ids c.head_of.ensures.is
