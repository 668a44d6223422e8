-- The owners of the chunks of slots, as marks. Each word of the image after the frame has a mark,
-- even if it is no slot. The mark's number counts the words between the frame and this word. In an
-- image without a chain the number of a slot's mark counts the slots before it.
use Rattle.std.specs.Prelude.{◌≡◌, ◌<◌, ◌+◌, ◌*◌, ◌/◌, if◌then◌else◌, ℕ, Bool, true, false, List, length, slice_index}
use Rattle.heap_model.specs.Chunk.{managers_owner}
use Rattle.heap_model.specs.Frame.{frame_size}
use Rattle.heap_model.specs.Slots.{slot_size, is_chained, IsSlot}
use Rattle.heap_model.specs.Store.{owner_under}
use Rattle.chunk_format.specs.declared.header.Header.{Header}
use Rattle.chunk_format.specs.declared.header.Header.TheVariants as headers

-- the greatest number of slots of an image without a chain: two bytes count them
abbrev pub most_slots : ℕ
most_slots = 65535

-- the offset of the word that the mark of this number belongs to
abbrev pub marked_word : ℕ → ℕ
marked_word number = frame_size + slot_size * number

-- a number of marks that is enough for the slots of an image
abbrev pub marks_needed : List ℕ → ℕ
marks_needed image = if is_chained image then length image / slot_size else most_slots

-- the mark of a slot that has no chunk
abbrev pub no_owner_mark : ℕ
no_owner_mark = 16

-- the mark that notes this owner: the owner itself, or always the manager's if owners aren't noted
abbrev pub noted_owner : Bool → ℕ → ℕ
noted_owner true owner = owner
noted_owner false owner = managers_owner

-- the mark of a slot if owners aren't noted, by whether its chunk was met
abbrev pub met_owner : Bool → ℕ
met_owner true = managers_owner
met_owner false = no_owner_mark

-- no slot is marked
abbrev pub NoneMarked : List ℕ → Type 0
NoneMarked marks = (number : ℕ) → number < length marks → slice_index marks number ≡ no_owner_mark

-- Each slot has a mark: the owner of its chunk, or `no_owner_mark` if it has none. No other word is
-- marked.
pub record HasOwners (image owners : List ℕ) : Type 0 where
  pub room : (number : ℕ) → IsSlot image (marked_word number) → number < length owners
  pub each : (number : ℕ) → IsSlot image (marked_word number) → slice_index owners number ≡ owner_under image (marked_word number)
  pub others : (number : ℕ) → number < length owners → (IsSlot image (marked_word number) → ⊥) → slice_index owners number ≡ no_owner_mark

-- the chunk, if it is movable, names a word whose mark is one of `count` marks
abbrev pub IsRoomFor : Header → ℕ → Type 0
IsRoomFor (headers.Free size) count = Unit {0}
IsRoomFor (headers.Movable length lock owner slot) count = (number : ℕ) × (slot ≡ marked_word number) × (number < count)
IsRoomFor (headers.Fixed length owner) count = Unit {0}

-- the chunk is movable, names this word and has this owner
abbrev pub NamesBy : ℕ → ℕ → Header → Type 0
NamesBy word owner (headers.Free size) = ⊥
NamesBy word owner (headers.Movable length lock own slot) = (slot ≡ word) × (own ≡ owner)
NamesBy word owner (headers.Fixed length own) = ⊥

-- the word that the chunk names, if it is movable, is marked with the chunk's owner, and each other
-- word is marked as before
pub record NotesOwner (header : Header) (old new : List ℕ) : Type 0 where
  pub own : (number owner : ℕ) → NamesBy (marked_word number) owner header → slice_index new number ≡ owner
  pub others : (number : ℕ) → ((owner : ℕ) → NamesBy (marked_word number) owner header → ⊥) → slice_index new number ≡ slice_index old number
