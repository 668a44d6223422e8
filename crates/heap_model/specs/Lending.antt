-- The lent parts of a heap: bodies of chunks that stay.
use Rattle.std.specs.Prelude.{◌≡◌, ◌≢◌, ◌<◌, ◌+◌, ◌++◌, IsTrue, ℕ, zero, suc, List, ◌∷◌, length, Some}
use Rattle.heap_model.specs.Memory.{Memory, Lent, EachLent, SomeLent, NoneBegins}
use Rattle.heap_model.specs.Chunk.{Chunk, free, movable, fixed, total, managers_owner, is_owned_by}
use Rattle.heap_model.specs.Placed.{AnyPlaced}
use Rattle.heap_model.specs.Slots.{area_start}
use Rattle.heap_model.specs.Heap.{HeapAccepted}
use Rattle.heap_model.specs.Meaning.{LiveChunk}
use Rattle.heap_model.specs.Reading.{chunks_of, held}
use Rattle.heap_model.specs.Space.{place_of}

-- The chunk at an offset stays and is no table, and its body is this lent part. A locked chunk has
-- an owner other than the manager.
abbrev pub LentHere : Lent → ℕ → Chunk → Type 0
LentHere lent at (free size) = ⊥
LentHere lent at (movable bytes zero owner slot) = ⊥
LentHere lent at (movable bytes (suc lock) owner slot) = (lent.at ≡ at + 8) × (lent.count ≡ length bytes)
LentHere lent at (fixed bytes owner) = (lent.at ≡ at + 8) × (lent.count ≡ length bytes) × (managers_owner < owner)

-- the lent part is the body of a chunk that stays
abbrev pub IsLentBody : List ℕ → Lent → Type 0
IsLentBody image lent = AnyPlaced (LentHere lent) (area_start image) (chunks_of image)

-- each lent part is the body of a chunk that stays
abbrev pub LendsBodies : Memory → Type 0
LendsBodies memory = EachLent (IsLentBody memory.bytes) memory.lents

-- The memory is an accepted heap, and each lent part is the body of a chunk that stays. Each call on
-- chunks requires it, and leaves it so.
pub record HoldsHeap (memory : Memory) : Type 0 where
  pub accepted : HeapAccepted memory.bytes
  pub lent : LendsBodies memory

-- the body at this place is not lent
abbrev pub LendsOther : Memory → ℕ → Type 0
LendsOther memory place = NoneBegins place memory.lents

-- no body of a chunk of this owner is lent
abbrev pub LendsNoneOf : Memory → ℕ → Type 0
LendsNoneOf memory owner = (before : List Chunk) (chunk : Chunk) (after : List Chunk) → chunks_of memory.bytes ≡ before ++ chunk ∷ after → IsTrue (is_owned_by owner chunk) → LendsOther memory (area_start memory.bytes + total before + 8)

-- a name is lent: its body is a lent part
abbrev pub IsLent : Memory → ℕ → Type 0
IsLent memory name = SomeLent (λ lent. place_of memory.bytes name ≡ Some lent.at) memory.lents

-- a name is lent, and stands for a chunk of `count` bytes
pub record IsLentAs (memory : Memory) (name count : ℕ) : Type 0 where
  pub lent : IsLent memory name
  pub live : LiveChunk
  pub is_held : held memory.bytes name ≡ Some live
  pub many : length live.bytes ≡ count

-- Each name that is lent stays lent, with the same number of bytes, and its body stays at its place.
abbrev pub KeepsLoan : Memory → Memory → Type 0
KeepsLoan old new = (name count : ℕ) → IsLentAs old name count → IsLentAs new name count × (place_of new.bytes name ≡ place_of old.bytes name)
