-- What a `Space` is: a region that holds a heap, and what is known about it.
use Rattle.std.specs.Prelude.{ℕ, List}
use Rattle.heap_model.specs.Memory.{Memory}
use Rattle.master_table.specs.Known.{Remembered, KnowsTables}
use Rattle.heap_model.specs.Lending.{HoldsHeap}
use Rattle.heap_place.specs.Lists.{HasLists}

-- The region holds a heap, the heads lead to lists of its free chunks, and the tables that are
-- remembered are tables of its chain.
pub record IsSpace (region : Memory) (heads : List ℕ) (known : Remembered) : Type 0 where
  pub heap : HoldsHeap region
  pub lists : HasLists region.bytes heads
  pub tables : KnowsTables region.bytes known
