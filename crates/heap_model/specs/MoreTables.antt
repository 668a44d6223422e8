-- A new further table.
use Rattle.std.specs.Prelude.{◌≡◌, ◌+◌, ◌*◌, ◌++◌, ◌⊎◌, ℕ, false, List, [], ◌∷◌, length, replicate, slice_range}
use Rattle.heap_model.specs.Bytes.{u32_at}
use Rattle.heap_model.specs.Chunk.{Chunk, need, next_size}
use Rattle.heap_model.specs.Slots.{Table, slot_size, is_chained, slot_count, table_end, slots_in_row, slots_of, further_tables, IsSlot, area_start}
use Rattle.heap_model.specs.Placed.{AnyPlaced, EveryOne}
use Rattle.heap_model.specs.Heap.{TableHere, Tiles, IsTablePlace, HeapAccepted, directory_of}
use Rattle.heap_model.specs.Reading.{held}
use Rattle.heap_model.specs.Space.{Short, place_of}

-- how many slots a new table has
abbrev pub gained_count : ℕ
gained_count = 15

-- a new table, whose body is at a place
abbrev pub gained : ℕ → Table
gained place = record { place = place; count = gained_count }

-- how many bytes the body of a new table has
abbrev pub gained_length : ℕ
gained_length = next_size + slot_size * gained_count

-- the size of a new table's chunk
abbrev pub table_need : ℕ
table_need = need gained_length

-- no table can be made: the image has no chain, or every stretch has too little room
abbrev pub HasNoMore : List ℕ → Type 0
HasNoMore image = (is_chained image ≡ false) ⊎ Short image table_need

-- the offset of the last word `next` of a chain; `word` is the offset of the first one
abbrev pub last_in : ℕ → List Table → ℕ
last_in word [] = word
last_in word (table ∷ tables) = last_in table.place tables

-- the offset of the last word `next` of an image that has a chain
abbrev pub last_next : List ℕ → ℕ
last_next image = last_in (table_end image) (further_tables image)

-- the offsets of the slots of a new table
abbrev pub gained_slots : ℕ → List ℕ
gained_slots place = slots_in_row (place + next_size) gained_count

-- each of these slots is empty
abbrev pub AreEmpty : List ℕ → List ℕ → Type 0
AreEmpty image slots = EveryOne (λ slot. u32_at image slot ≡ 0) slots

-- The chunk at a place is a table whose body is all zeros, ready to be added: it isn't in the
-- chain.
pub record HasNewTable (image : List ℕ) (place : ℕ) : Type 0 where
  pub chunks : List Chunk
  pub tiles : Tiles image chunks
  pub there : AnyPlaced (TableHere (gained place)) (area_start image) chunks
  pub zeros : slice_range image place (place + gained_length) ≡ replicate gained_length 0
  pub apart : IsTablePlace (further_tables image) place → ⊥

-- the slots of the new table are the last of the list, and no other slot has changed
pub record AddsSlots (old new : List ℕ) (place : ℕ) : Type 0 where
  pub tiled : (chunks : List Chunk) × Tiles new chunks
  pub slots : slots_of new ≡ slots_of old ++ gained_slots place
  pub empty : AreEmpty new (gained_slots place)
  pub same : (slot : ℕ) → IsSlot old slot → u32_at new slot ≡ u32_at old slot

-- The new image is an accepted heap with one table more. This table is the last of the chain, and
-- its slots are empty.
pub record GainsTable (old new : List ℕ) (place : ℕ) : Type 0 where
  pub accepted : HeapAccepted new
  pub len : length new ≡ length old
  pub directory : directory_of new ≡ directory_of old
  pub chained : is_chained new ≡ is_chained old
  pub count : slot_count new ≡ slot_count old
  pub further : further_tables new ≡ further_tables old ++ gained place ∷ []
  pub empty : AreEmpty new (gained_slots place)

-- the table was added, and every name stands for what it stood for before, at the same place
pub record PutsTable (old new : List ℕ) (place : ℕ) : Type 0 where
  pub gains : GainsTable old new place
  pub map : (name : ℕ) → held new name ≡ held old name
  pub places : (name : ℕ) → place_of new name ≡ place_of old name
