-- The loop of `are_short` keeps its invariant: each block before this one is absent or short.
use Rattle.pdb_files.proofs.Words.{ℕ, ◌<◌, Option, slice_index_or, Block, IsShort}
use Rattle.pdb_files.proofs.importing.plan.are_short.Given as goal

abbrev pub invariant-loop-index : goal.invariant-loop-index
invariant-loop-index l = (k : ℕ) (d : Option Block) → k < l.index
    → IsShort (slice_index_or l.blocks k d)
