-- The counts of an accepted heap.
use Rattle.std.specs.Prelude.{◌≡◌, ℕ, List, length, count_by, sum_by}
use Rattle.heap_model.specs.Chunk.{is_movable, is_fixed, free_size}
use Rattle.heap_model.specs.Slots.{slots_of}
use Rattle.heap_model.specs.Reading.{chunks_of}
use Rattle.heap_check.specs.declared.summary.Summary.{Summary}

-- the numbers are those of the image, its slots and its chunks
pub record Summarizes (image : List ℕ) (summary : Summary) : Type 0 where
  pub size : summary.size ≡ length image
  pub slots : summary.slots ≡ length (slots_of image)
  pub movable : summary.movable ≡ count_by is_movable (chunks_of image)
  pub fixed : summary.fixed ≡ count_by is_fixed (chunks_of image)
  pub free : summary.free ≡ sum_by free_size (chunks_of image)
