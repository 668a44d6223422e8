-- The counts of a walk over chunks.
use Rattle.std.specs.Prelude.{◌≡◌, List, count_by, sum_by}
use Rattle.heap_model.specs.Chunk.{Chunk, is_movable, is_fixed, free_size}
use Rattle.mem_manager.specs.declared.counting.Counts.{Counts}

-- `counts` has the numbers of these chunks
pub record AreCounted (counts : Counts) (chunks : List Chunk) : Type 0 where
  pub movable : counts.movable ≡ count_by is_movable chunks
  pub fixed : counts.fixed ≡ count_by is_fixed chunks
  pub free : counts.free ≡ sum_by free_size chunks
