-- The master pointer tables: where the slots of an image are, and where its chunks begin. Other
-- files use `slots_of`, `IsSlot`, `is_slot` and `StandsBehind` for slots, `tables_of` for the
-- tables as a whole, and `head_end` and `area_start` for the bytes before the chunks.
use Rattle.std.specs.Prelude.{◌≡◌, ◌≤◌, ◌+◌, ◌-◌, ◌*◌, ◌/◌, ◌==◌, ◌||◌, ◌⊎◌, ◌++◌, if◌then◌else◌, ℕ, zero, suc, Bool, false, List, [], ◌∷◌, length, take}
use Rattle.heap_model.specs.Memory.{Memory, Misses}
use Rattle.heap_model.specs.Bytes.{u16_at, u32_at}
use Rattle.heap_model.specs.Chunk.{next_size, body_length}
use Rattle.heap_model.specs.Placed.{EveryOne}
use Rattle.heap_model.specs.Frame.{magic_at, chained_magic, slot_count_at, frame_size}

-- the size of a slot
abbrev pub slot_size : ℕ
slot_size = 4

-- how many slots the first table has, by the head
abbrev pub slot_count : List ℕ → ℕ
slot_count image = u16_at image slot_count_at

-- where the first table ends, if it has `count` slots
abbrev pub end_behind : ℕ → ℕ
end_behind count = frame_size + slot_size * count

-- where the chunks begin if the head ends at `end`: at a multiple of 8
abbrev pub aligned : ℕ → ℕ
aligned end = 8 * ((end + 7) / 8)

-- where the chunks begin after one table of `count` slots without a chain
abbrev pub start_behind : ℕ → ℕ
start_behind count = aligned (end_behind count)

-- where the first table ends
abbrev pub table_end : List ℕ → ℕ
table_end image = end_behind (slot_count image)

-- the image has a chain of tables: a word `next` comes after the first table
abbrev pub is_chained : List ℕ → Bool
is_chained image = u32_at image magic_at == chained_magic

-- the size of what is between the first table and the padding
abbrev pub behind_table : List ℕ → ℕ
behind_table image = if is_chained image then next_size else 0

-- where the padding before the chunks begins
abbrev pub head_end : List ℕ → ℕ
head_end image = table_end image + behind_table image

-- where the first chunk begins
abbrev pub area_start : List ℕ → ℕ
area_start image = aligned (head_end image)

-- ---- tables

-- a further table: where its body is, and how many slots it has
pub record Table : Type 0 where
  pub place : ℕ
  pub count : ℕ

-- the table whose body is at a place, by the chunk header before it
abbrev pub table_at : List ℕ → ℕ → Table
table_at image place = record { place = place; count = (body_length (u32_at image (place - 8)) - next_size) / slot_size }

-- a table, if a word `next` isn't 0, and then the others
abbrev pub table_then : (ℕ → List Table) → List ℕ → ℕ → List Table
table_then others image zero = []
table_then others image (suc before) = table_at image (suc before) ∷ others (u32_at image (suc before))

-- the tables from a word `next` on, at most `count` of them
abbrev pub tables_within : ℕ → List ℕ → ℕ → List Table
tables_within zero image next = []
tables_within (suc count) image next = table_then (tables_within count image) image next

-- the first word `next`; 0 if there is none
abbrev pub first_next : List ℕ → ℕ
first_next image = if is_chained image then u32_at image (table_end image) else 0

-- the further tables of an image, along the chain
unfoldable pub further_tables : List ℕ → List Table
further_tables image = tables_within (length image) image (first_next image)

-- The tables of an image: whether they are a chain, how many slots the first table has, and the
-- further tables.
pub record Tables : Type 0 where
  pub chained : Bool
  pub count : ℕ
  pub further : List Table

abbrev pub tables_of : List ℕ → Tables
tables_of image = record { chained = is_chained image; count = slot_count image; further = further_tables image }

-- ---- slots

-- the offsets of `count` slots in a row, of which the first is at `first`
abbrev pub slots_in_row : ℕ → ℕ → List ℕ
slots_in_row first zero = []
slots_in_row first (suc count) = first ∷ slots_in_row (first + slot_size) count

-- the offsets of the slots of further tables
abbrev pub slots_further : List Table → List ℕ
slots_further [] = []
slots_further (table ∷ tables) = slots_in_row (table.place + next_size) table.count ++ slots_further tables

-- the offsets of the slots of all tables
abbrev pub slots_in : Tables → List ℕ
slots_in tables = slots_in_row frame_size tables.count ++ slots_further tables.further

-- the offsets of an image's slots in their order: first those of the first table, then along the
-- chain
unfoldable pub slots_of : List ℕ → List ℕ
slots_of image = slots_in (tables_of image)

-- the first table and each slot lie within the image
pub record TablesLie (image : List ℕ) : Type 0 where
  pub first : head_end image ≤ length image
  pub slots : EveryOne (λ slot. slot + slot_size ≤ length image) (slots_of image)

-- the tables lie within a memory, and its lent parts overlap neither the first table nor a slot
pub record HasTable (memory : Memory) : Type 0 where
  pub lie : TablesLie memory.bytes
  pub first_misses : Misses memory.lents 0 (head_end memory.bytes)
  pub slots_miss : EveryOne (λ slot. Misses memory.lents slot slot_size) (slots_of memory.bytes)

-- how many slots an image has
abbrev pub slots_total : List ℕ → ℕ
slots_total image = length (slots_of image)

-- the first `count` slots, or all if there are fewer
abbrev pub first_slots : List ℕ → ℕ → List ℕ
first_slots image count = take count (slots_of image)

-- exactly `count` slots come before this one
pub record StandsBehind (image : List ℕ) (slot count : ℕ) : Type 0 where
  pub front : List ℕ
  pub rest : List ℕ
  pub parts : slots_of image ≡ front ++ slot ∷ rest
  pub before : length front ≡ count

-- a list contains a number
abbrev pub StandsIn : List ℕ → ℕ → Type 0
StandsIn [] number = ⊥
StandsIn (first ∷ others) number = (first ≡ number) ⊎ StandsIn others number

-- this is the offset of a slot
pub record IsSlot (image : List ℕ) (slot : ℕ) : Type 0 where
  pub listed : StandsIn (slots_of image) slot

-- whether a list contains a number, as a test
abbrev pub stands_in : List ℕ → ℕ → Bool
stands_in [] number = false
stands_in (first ∷ others) number = (first == number) || stands_in others number

-- whether this is the offset of a slot, as a test
abbrev pub is_slot : List ℕ → ℕ → Bool
is_slot image slot = stands_in (slots_of image) slot
