-- The results of a walk over chunks, and what one header adds to them.
use Rattle.std.specs.Prelude.{◌≡◌, ◌≢◌, ◌+◌, ◌-◌, ◌==◌, ◌&&◌, ◌↔◌, ◌⊎◌, ◌≤◌, nat_lt, ℕ, Bool, true, false, List, [], length, slice_index, count_by, sum_by, Option, Some, None, MatchOption}
use Rattle.heap_model.specs.Bytes.{u32_at}
use Rattle.heap_model.specs.Chunk.{Chunk, free, movable, fixed, Spelled, SpelledAll, is_movable, is_fixed, free_size, managers_owner, data_owner}
use Rattle.heap_model.specs.Placed.{EveryPlaced, FirstWithout, EveryOne, FirstOne}
use Rattle.heap_model.specs.Slots.{area_start, is_slot, slots_of, slots_total, StandsBehind}
use Rattle.heap_model.specs.Heap.{Tiles, IsBody, IsKnownIfFixed}
use Rattle.heap_model.specs.Pairing.{HoldsBody, NamesItsSlot}
use Rattle.heap_model.specs.Reading.{chunk_at, chunks_of}
use Rattle.chunk_format.specs.declared.header.Header.{Header}
pub use Rattle.chunk_format.specs.Header.{free_by}
use Rattle.chunk_format.specs.declared.header.Header.TheVariants as headers
use Rattle.heap_check.specs.declared.survey.Survey.{Survey}
use Rattle.heap_check.specs.Owners.{no_owner_mark, noted_owner}

-- ---- one chunk, by its header

-- 1 for a movable chunk, 0 for any other
abbrev pub movable_by : Header → ℕ
movable_by (headers.Free size) = 0
movable_by (headers.Movable length lock owner slot) = 1
movable_by (headers.Fixed length owner) = 0

-- 1 for a fixed chunk, 0 for any other
abbrev pub fixed_by : Header → ℕ
fixed_by (headers.Free size) = 0
fixed_by (headers.Movable length lock owner slot) = 0
fixed_by (headers.Fixed length owner) = 1

-- whether a slot is at one offset, and holds the place of the chunk at another offset
abbrev pub holds_place : List ℕ → ℕ → ℕ → Bool
holds_place image slot at = is_slot image slot && (u32_at image slot == at + 8)

-- whether the chunk, if it is movable, names a slot that holds its place
abbrev pub names_by : List ℕ → ℕ → Header → Bool
names_by image at (headers.Free size) = true
names_by image at (headers.Movable length lock owner slot) = holds_place image slot at
names_by image at (headers.Fixed length owner) = true

-- whether the chunk, if it is fixed, is a caller's
abbrev pub callers_by : Header → Bool
callers_by (headers.Free size) = true
callers_by (headers.Movable length lock owner slot) = true
callers_by (headers.Fixed length owner) = nat_lt managers_owner owner && nat_lt owner data_owner

-- the chunk is movable, names this slot and has its body at this place
abbrev pub BodyBy : ℕ → ℕ → ℕ → Header → Type 0
BodyBy slot place at (headers.Free size) = ⊥
BodyBy slot place at (headers.Movable length lock owner named) = (named ≡ slot) × (at + 8 ≡ place)
BodyBy slot place at (headers.Fixed length owner) = ⊥

-- the owner in the header of a live chunk
abbrev pub owner_by : Header → ℕ
owner_by (headers.Free size) = 0
owner_by (headers.Movable length lock owner slot) = owner
owner_by (headers.Fixed length owner) = owner

-- the first offset that failed a test, after the test of one more
abbrev pub noted : Option ℕ → ℕ → Bool → Option ℕ
noted (Some first) at right = Some first
noted None at true = None
noted None at false = Some at

-- ---- all chunks so far

-- the slot with this number is marked
abbrev pub MarkedAt : List ℕ → ℕ → Type 0
MarkedAt marks number = slice_index marks number ≢ no_owner_mark

-- a slot is marked exactly if a chunk that names it has its body at the place it holds
abbrev pub MarkTiedSlots : List ℕ → List Chunk → List ℕ → Type 0
MarkTiedSlots image chunks marks = (slot number : ℕ) → StandsBehind image slot number → (MarkedAt marks number ↔ IsBody (area_start image) chunks slot (u32_at image slot))

-- a movable chunk with this owner names the slot, which holds its place
pub record IsOwnerOf (image : List ℕ) (slot owner : ℕ) : Type 0 where
  pub at : ℕ
  pub bytes : List ℕ
  pub lock : ℕ
  pub spelled : Spelled image at (movable bytes lock owner slot)
  pub place : at + 8 ≡ u32_at image slot

-- each slot that is marked has the mark of the owner of a movable chunk that names it
abbrev pub AreNoted : Bool → List ℕ → List ℕ → Type 0
AreNoted notes image marks = (slot number : ℕ) → StandsBehind image slot number → MarkedAt marks number
    → ((owner : ℕ) × (slice_index marks number ≡ noted_owner notes owner) × IsOwnerOf image slot owner)

-- the marks that belong to no slot are what they were
abbrev pub KeepsBeyond : List ℕ → List ℕ → List ℕ → Type 0
KeepsBeyond image old new = (number : ℕ) → slots_total image ≤ number → slice_index new number ≡ slice_index old number

-- the slots that satisfy P have this mark, and all other marks are what they were
pub record AddsMark (image : List ℕ) (P : ℕ → Type 0) (mark : ℕ) (old new : List ℕ) : Type 0 where
  pub each : (slot number : ℕ) → StandsBehind image slot number
      → ((P slot × (slice_index new number ≡ mark)) ⊎ ((P slot → ⊥) × (slice_index new number ≡ slice_index old number)))
  pub beyond : KeepsBeyond image old new

-- the slot is this one and holds the place of the chunk at this offset
abbrev pub IsHolder : List ℕ → ℕ → ℕ → ℕ → Type 0
IsHolder image named at slot = (named ≡ slot) × (at + 8 ≡ u32_at image slot)

-- The slot that the chunk with this header names has the mark of the chunk's owner, if the slot
-- holds the chunk's place. The other slots are marked as before.
abbrev pub MarksBody : Bool → List ℕ → ℕ → Header → List ℕ → List ℕ → Type 0
MarksBody notes image at header old new = AddsMark image (λ slot. BodyBy slot (u32_at image slot) at header) (noted_owner notes (owner_by header)) old new

-- the first chunk that doesn't satisfy P, if there is one
abbrev pub IsFirstWithout : (ℕ → Chunk → Type 0) → ℕ → List Chunk → Option ℕ → Type 0
IsFirstWithout P at chunks found = MatchOption found (EveryPlaced P at chunks) (λ there. FirstWithout P at chunks there)

-- the survey and the marks are those of these chunks, the first of the image
pub record Surveys (image : List ℕ) (chunks : List Chunk) (survey : Survey) (marks : List ℕ) : Type 0 where
  pub movable : survey.movable ≡ count_by is_movable chunks
  pub fixed : survey.fixed ≡ count_by is_fixed chunks
  pub free : survey.free ≡ sum_by free_size chunks
  pub marked : MarkTiedSlots image chunks marks
  pub without_slot : IsFirstWithout (NamesItsSlot image) (area_start image) chunks survey.without_slot
  pub bad_owner : IsFirstWithout (IsKnownIfFixed []) (area_start image) chunks survey.bad_owner

-- a slot in use is marked
abbrev pub IsMarked : List ℕ → List ℕ → ℕ → Type 0
IsMarked image marks slot = u32_at image slot ≢ 0 → (number : ℕ) → StandsBehind image slot number → MarkedAt marks number

-- each slot in use is marked
abbrev pub AllMarked : List ℕ → List ℕ → Type 0
AllMarked image marks = EveryOne (IsMarked image marks) (slots_of image)

-- this is the first slot that is in use and not marked
abbrev pub IsFirstUnmarked : List ℕ → List ℕ → ℕ → Type 0
IsFirstUnmarked image marks slot = FirstOne (IsMarked image marks) (slots_of image) slot

-- the chunks reach the end of the image, and the survey and the marks are those of all chunks
pub record IsSurvey (image : List ℕ) (survey : Survey) (marks : List ℕ) : Type 0 where
  pub spelled : SpelledAll image (area_start image) (chunks_of image) (length image)
  pub surveys : Surveys image (chunks_of image) survey marks

-- A walk has come to this offset. It has surveyed and marked the chunks before it.
pub record HasSurveyed (image : List ℕ) (at : ℕ) (survey : Survey) (marks : List ℕ) : Type 0 where
  pub chunks : List Chunk
  pub spelled : SpelledAll image (area_start image) chunks at
  pub surveys : Surveys image chunks survey marks
  pub counts : survey.movable + survey.fixed + survey.free ≤ at
  pub inside : at ≤ length image

-- the image is tiled, and its slots and movable chunks are paired, in both halves
pub record IsPaired (image : List ℕ) : Type 0 where
  pub tiles : Tiles image (chunks_of image)
  pub slots : EveryOne (HoldsBody image (chunks_of image)) (slots_of image)
  pub names : EveryPlaced (NamesItsSlot image) (area_start image) (chunks_of image)

-- there is a chunk, and it is a movable one of the manager's
abbrev pub ManagersAt : Option Chunk → Type 0
ManagersAt None = ⊥
ManagersAt (Some (free size)) = ⊥
ManagersAt (Some (movable bytes lock owner slot)) = owner ≡ managers_owner
ManagersAt (Some (fixed bytes owner)) = ⊥

-- a chunk has its body at this place, and is a movable one of the manager's
abbrev pub IsManagersBody : List ℕ → ℕ → Type 0
IsManagersBody image place = (8 ≤ place) × ManagersAt (chunk_at image (place - 8))
