-- An open store, as contracts see it.
use Rattle.std.specs.Prelude.{ℕ, List}
use Rattle.heap_model.specs.Memory.{Memory}
use Rattle.palmheap_c.specs.declared.pointers.Pinned.{Pinned}

-- the store, and the chunks to which pointers are out, by their names in order
pub record Opened : Type 0 where
  pub memory : Memory
  pub pointers : List (ℕ × Pinned)
