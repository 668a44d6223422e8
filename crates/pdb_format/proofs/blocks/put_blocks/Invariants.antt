-- The loop of `put_blocks` keeps its invariant: the blocks that start before the index are at their
-- ranks, and the sum of their lengths is known.
use Rattle.std.proofs.Common.{◌≡◌, ◌+◌, length}
use Rattle.std.specs.List.{sum_by}
use Rattle.heap_model.specs.Files.{offsets_in}
use Rattle.pdb_format.specs.Blocks.{length_within}
use Rattle.pdb_format.specs.Starts.{begins}
use Rattle.pdb_format.proofs.PlacedBlocks.{ArePut}
use Rattle.pdb_format.proofs.blocks.put_blocks.Given as goal

abbrev pub invariant-loop-index : goal.invariant-loop-index
invariant-loop-index g l = record {
  placed : ArePut (offsets_in (g.B.FileBytes.bytes l.file)) (length (g.B.FileBytes.bytes l.file)) l.starts l.blocks l.index;
  taken : sum_by length_within l.blocks + begins (length (g.B.FileBytes.bytes l.file)) l.starts 0
      ≡ begins (length (g.B.FileBytes.bytes l.file)) l.starts l.index;
}
