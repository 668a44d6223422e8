-- The findings of each walk in the check of a chain. The marks are a set of words of the image. The
-- number of a word is a fourth of its offset.
use Rattle.std.specs.Prelude.{◌≡◌, ◌≢◌, ◌+◌, ◌*◌, ◌/◌, ◌%◌, ◌<◌, ◌↔◌, ◌⊎◌, ◌==◌, if◌then◌else◌, nat_lt, ℕ, Bool, true, false, List, length, count_by, sum_by}
use Rattle.heap_model.specs.Bytes.{u32_at}
use Rattle.heap_model.specs.Chunk.{Chunk, free, movable, fixed, SpelledAll, is_movable, is_fixed, free_size, managers_owner, data_owner}
use Rattle.heap_model.specs.Placed.{AnyPlaced, EveryOne}
use Rattle.heap_model.specs.Slots.{Table, IsSlot, StandsIn, first_slots, slots_total, area_start, first_next, further_tables}
use Rattle.heap_model.specs.Heap.{TableHere, IsTablePlace, IsChain}
use Rattle.heap_model.specs.Pairing.{HoldsBody}
use Rattle.heap_model.specs.Reading.{chunks_of}
use Rattle.bit_sets.specs.Sets.{IsInSet, AddsNumber}
use Rattle.chunk_format.specs.declared.header.Header.{Header}
use Rattle.chunk_format.specs.declared.header.Header.TheVariants as headers
use Rattle.heap_check.specs.declared.chained.Bodies.{Bodies}
use Rattle.heap_check.specs.declared.chained.Chain.{Chain}
use Rattle.heap_check.specs.Survey.{IsFirstWithout}

-- exactly the words at the offsets that satisfy P are marked
abbrev pub Marks : List ℕ → (ℕ → Type 0) → Type 0
Marks marks P = (word : ℕ) → IsInSet marks word ↔ P (4 * word)

-- the chunk is a fixed one of the manager's, and has its body at this place
abbrev pub ManagersBody : ℕ → ℕ → Chunk → Type 0
ManagersBody place at (free size) = ⊥
ManagersBody place at (movable bytes lock owner slot) = ⊥
ManagersBody place at (fixed bytes owner) = (owner ≡ managers_owner) × (at + 8 ≡ place)

-- the chunk, if it is fixed, doesn't have owner 15, which no fixed chunk may have
abbrev pub MayBe : ℕ → Chunk → Type 0
MayBe at (free size) = Unit {0}
MayBe at (movable bytes lock owner slot) = Unit {0}
MayBe at (fixed bytes owner) = owner < data_owner

-- a fixed chunk of the manager's has its body at this place
abbrev pub IsManagersAt : List ℕ → ℕ → Type 0
IsManagersAt image place = AnyPlaced (ManagersBody place) (area_start image) (chunks_of image)

-- whether the chunk is a fixed one of the manager's
abbrev pub is_managers : Chunk → Bool
is_managers (free size) = false
is_managers (movable bytes lock owner slot) = false
is_managers (fixed bytes owner) = owner == managers_owner

-- the chunks reach the end of the image, and these are their counts
pub record FoundBodies (image : List ℕ) (bodies : Bodies) : Type 0 where
  pub spelled : SpelledAll image (area_start image) (chunks_of image) (length image)
  pub movable : bodies.movable ≡ count_by is_movable (chunks_of image)
  pub fixed : bodies.fixed ≡ count_by is_fixed (chunks_of image)
  pub free : bodies.free ≡ sum_by free_size (chunks_of image)
  pub managers : bodies.managers ≡ count_by is_managers (chunks_of image)
  pub bad_owner : IsFirstWithout MayBe (area_start image) (chunks_of image) bodies.bad_owner

-- the chain is right and its slots are counted, and of the manager's fixed chunks those are marked
-- that are no tables
pub record Followed (image : List ℕ) (found : Chain) (marks : List ℕ) : Type 0 where
  pub chain : IsChain image (chunks_of image) (first_next image) (further_tables image)
  pub tables : found.tables ≡ length (further_tables image)
  pub slots : found.slots ≡ slots_total image
  pub marked : Marks marks (λ place. IsManagersAt image place × (IsTablePlace (further_tables image) place → ⊥))

-- the slot is in use
abbrev pub IsInUse : List ℕ → ℕ → Type 0
IsInUse image slot = IsSlot image slot × (u32_at image slot ≢ 0)

-- the slot is in use, and no movable chunk that names it has its body at the place it holds
abbrev pub IsLeft : List ℕ → ℕ → Type 0
IsLeft image slot = IsSlot image slot × (HoldsBody image (chunks_of image) slot → ⊥)

-- exactly the slots in use among the first `count` slots are marked
abbrev pub MarksBefore : List ℕ → ℕ → List ℕ → Type 0
MarksBefore image count marks = Marks marks (λ slot. StandsIn (first_slots image count) slot × (u32_at image slot ≢ 0))

-- the slot is marked if it is in use, and each other word is marked as before
abbrev pub AddsInUse : List ℕ → ℕ → List ℕ → List ℕ → Type 0
AddsInUse image slot old new = ((u32_at image slot ≢ 0) × AddsNumber old new (slot / 4)) ⊎ ((u32_at image slot ≡ 0) × (new ≡ old))

-- each of the first `count` slots holds the place of a body if it is in use
abbrev pub HeldBefore : List ℕ → ℕ → Type 0
HeldBefore image count = EveryOne (HoldsBody image (chunks_of image)) (first_slots image count)

-- this word was marked and is no longer, and each other word is marked as before
pub record Takes (number : ℕ) (old new : List ℕ) : Type 0 where
  pub was : IsInSet old number
  pub gone : IsInSet new number → ⊥
  pub others : (other : ℕ) → other ≢ number → (IsInSet new other ↔ IsInSet old other)

-- the slot at this offset is marked and holds this place
abbrev pub HoldsMarked : List ℕ → ℕ → ℕ → List ℕ → Type 0
HoldsMarked image slot place marks = (slot % 4 ≡ 0) × IsInSet marks (slot / 4) × (u32_at image slot ≡ place)

-- a table of `count` slots has its body at this place, which was marked and is no longer
pub record TakesTable (image : List ℕ) (place : ℕ) (old new : List ℕ) (count : ℕ) : Type 0 where
  pub takes : Takes (place / 4) old new
  pub table : AnyPlaced (TableHere record { place = place; count = count }) (area_start image) (chunks_of image)

-- no table has its body at this place, or the body isn't marked
abbrev pub IsNoTable : List ℕ → ℕ → List ℕ → Type 0
IsNoTable image place marks = (table : Table) → AnyPlaced (TableHere table) (area_start image) (chunks_of image) → table.place ≡ place → IsInSet marks (place / 4) → ⊥

-- ---- one chunk, by its header

-- 1 for a fixed chunk of the manager's, 0 for any other
abbrev pub managers_by : Header → ℕ
managers_by (headers.Free size) = 0
managers_by (headers.Movable length lock owner slot) = 0
managers_by (headers.Fixed length owner) = if owner == managers_owner then 1 else 0

-- the chunk, if it is fixed, doesn't have owner 15, which no fixed chunk may have
abbrev pub may_be_by : Header → Bool
may_be_by (headers.Free size) = true
may_be_by (headers.Movable length lock owner slot) = true
may_be_by (headers.Fixed length owner) = nat_lt owner data_owner

-- the chunk at an offset is a fixed one of the manager's, and has its body at this place
abbrev pub ManagersBodyBy : ℕ → ℕ → Header → Type 0
ManagersBodyBy place at (headers.Free size) = ⊥
ManagersBodyBy place at (headers.Movable length lock owner slot) = ⊥
ManagersBodyBy place at (headers.Fixed length owner) = (owner ≡ managers_owner) × (at + 8 ≡ place)

-- the chunk at an offset, if it is fixed, is a caller's, or one of the manager's without a mark
abbrev pub IsUnmarkedBy : List ℕ → ℕ → Header → Type 0
IsUnmarkedBy marks at (headers.Free size) = Unit {0}
IsUnmarkedBy marks at (headers.Movable length lock owner slot) = Unit {0}
IsUnmarkedBy marks at (headers.Fixed length owner) = (owner < data_owner) × ((managers_owner < owner) ⊎ (IsInSet marks ((at + 8) / 4) → ⊥))

-- the chunk at an offset, if it is movable, names a marked slot that holds its place
abbrev pub NamesMarkedBy : List ℕ → List ℕ → ℕ → Header → Type 0
NamesMarkedBy image marks at (headers.Free size) = Unit {0}
NamesMarkedBy image marks at (headers.Movable length lock owner slot) = HoldsMarked image slot (at + 8) marks
NamesMarkedBy image marks at (headers.Fixed length owner) = Unit {0}

-- the chunk is a movable one of the manager's, and names this slot
abbrev pub ManagersBy : ℕ → Header → Type 0
ManagersBy slot (headers.Free size) = ⊥
ManagersBy slot (headers.Movable length lock owner named) = (named ≡ slot) × (owner ≡ managers_owner)
ManagersBy slot (headers.Fixed length owner) = ⊥

-- the words that satisfy P are marked too, and no others are added
abbrev pub MarksWords : (ℕ → Type 0) → List ℕ → List ℕ → Type 0
MarksWords P old new = (word : ℕ) → IsInSet new word ↔ (IsInSet old word ⊎ P (4 * word))

-- the words that satisfy P are no longer marked, and each other word is marked as before
abbrev pub TakesMarks : (ℕ → Type 0) → List ℕ → List ℕ → Type 0
TakesMarks P old new = (word : ℕ) → IsInSet new word ↔ (IsInSet old word × (P (4 * word) → ⊥))
