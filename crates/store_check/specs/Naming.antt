-- How often slots are listed and named.
use Rattle.std.specs.Prelude.{◌≡◌, ◌≢◌, ◌<◌, ◌≤◌, ◌++◌, ℕ, List, ◌∷◌, length, slice_index, min, All}
use Rattle.heap_model.specs.Chunk.{data_owner}
use Rattle.heap_model.specs.Slots.{IsSlot}
use Rattle.heap_model.specs.Heap.{HeapAccepted, directory_of}
use Rattle.heap_model.specs.Lists.{times, Distinct, numbered}
use Rattle.heap_model.specs.Store.{owner_under, listed, named, IsHeaderSlot}
use Rattle.heap_check.specs.Owners.{marked_word}
use Rattle.store_check.specs.Listing.{listed_at}
use Rattle.store_check.specs.Owners.{IsOurOwner}

-- Each header that is listed is a chunk of the manager's and listed once. All slots that databases
-- name are those of chunks for data. This is known if no slot of the directory, no header and no
-- entry is bad.
pub record AreNamed (image : List ℕ) : Type 0 where
  pub heap : HeapAccepted image
  pub distinct : Distinct (listed image)
  pub headers : All (IsHeaderSlot image) (listed image)
  pub «data» : (slot : ℕ) → slot ≢ 0 → 0 < times slot (named image) → owner_under image slot ≡ data_owner

-- all slots that are listed and named, in the order in which the checker meets them: the directory,
-- the headers, and the slots that the databases name
abbrev pub accounted : List ℕ → List ℕ
accounted image = directory_of image ∷ (listed image ++ named image)

-- the first of these slots, which are the manager's
abbrev pub managers_slots : List ℕ → List ℕ
managers_slots image = directory_of image ∷ listed image

-- the first of these slots, before the directory's word with an index
abbrev pub met : List ℕ → ℕ → List ℕ
met image index = directory_of image ∷ numbered (listed_at image) index

-- `count` marks are enough for the slots of an image: each slot has one
abbrev pub AreEnoughMarks : List ℕ → ℕ → Type 0
AreEnoughMarks image count = (number : ℕ) → IsSlot image (marked_word number) → number < count

-- one of `count` marks belongs to the word at this offset
abbrev pub HasMark : ℕ → ℕ → Type 0
HasMark slot count = (number : ℕ) × (marked_word number ≡ slot) × (number < count)

-- the mark of each word is 0, 1 or 2, if its offset is in a list never, once or more often
abbrev pub AreMarks : List ℕ → List ℕ → Type 0
AreMarks xs marks = (number : ℕ) → number < length marks → slice_index marks number ≡ min (times (marked_word number) xs) 2

-- if the old marks were those of a list, the new ones are those of the list followed by these slots
abbrev pub AddsMarks : List ℕ → List ℕ → List ℕ → Type 0
AddsMarks slots old new = (xs : List ℕ) → AreMarks xs old → AreMarks (xs ++ slots) new

-- the mark with this number is 2
abbrev pub IsMarkedTwice : List ℕ → ℕ → Type 0
IsMarkedTwice marks number = (number < length marks) × (2 ≤ slice_index marks number)

-- the mark with this number is 0, and yet the owner of a chunk for data or of one of the manager's
-- is noted
abbrev pub IsUnmarked : List ℕ → List ℕ → ℕ → Type 0
IsUnmarked marks owners number =
    (number < length marks) × (number < length owners) × (slice_index marks number ≡ 0) × IsOurOwner (slice_index owners number)

-- one of the marks is 2
abbrev pub HasMarkTwo : List ℕ → Type 0
HasMarkTwo marks = (number : ℕ) × IsMarkedTwice marks number

-- one of the marks is 0, and yet an owner of the manager's or of data is noted
abbrev pub HasUnmarked : List ℕ → List ℕ → Type 0
HasUnmarked marks owners = (number : ℕ) × IsUnmarked marks owners number
