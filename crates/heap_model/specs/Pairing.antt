-- The ties between slots and chunks of an accepted heap in two halves, as a checker tests them: for
-- each slot, and for each movable chunk.
use Rattle.std.specs.Prelude.{◌≡◌, ◌≢◌, ◌+◌, ℕ, List}
use Rattle.heap_model.specs.Bytes.{u32_at}
use Rattle.heap_model.specs.Chunk.{Chunk, free, movable, fixed}
use Rattle.heap_model.specs.Slots.{IsSlot, area_start}
use Rattle.heap_model.specs.Heap.{IsBody}

-- if a slot is in use, it contains the place of a movable chunk that names it
abbrev pub HoldsBody : List ℕ → List Chunk → ℕ → Type 0
HoldsBody image chunks slot = u32_at image slot ≢ 0 → IsBody (area_start image) chunks slot (u32_at image slot)

-- if the chunk at this offset is movable, it names a slot that contains its place
abbrev pub NamesItsSlot : List ℕ → ℕ → Chunk → Type 0
NamesItsSlot image at (free size) = Unit {0}
NamesItsSlot image at (movable bytes lock owner slot) = IsSlot image slot × (u32_at image slot ≡ at + 8)
NamesItsSlot image at (fixed bytes owner) = Unit {0}
