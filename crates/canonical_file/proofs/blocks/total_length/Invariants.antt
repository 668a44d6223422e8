-- The loop of `total_length` keeps its invariant: the total is that of the blocks before the index.
use Rattle.std.proofs.Common.{◌≡◌, take}
use Rattle.std.specs.List.{sum_by}
use Rattle.pdb_format.specs.Blocks.{length_within}
use Rattle.canonical_file.proofs.blocks.total_length.Given as goal

abbrev pub invariant-loop-index : goal.invariant-loop-index
invariant-loop-index l = l.total ≡ sum_by length_within (take l.index l.blocks)
