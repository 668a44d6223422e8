-- The table as a partial map from slots to places.
use Rattle.std.specs.Prelude.{◌≡◌, ◌≢◌, ◌<◌, ◌+◌, ◌++◌, [], ◌∷◌, ◌==◌, ◌⊎◌, ℕ, zero, suc, false, List, length, count_by}
use Rattle.heap_model.specs.Bytes.{u32_at}
use Rattle.heap_model.specs.Placed.{EveryOne}
use Rattle.heap_model.specs.Chunk.{Chunk}
use Rattle.heap_model.specs.Slots.{Table, is_chained, slot_count, table_end, tables_within, slots_in_row, slots_further, slots_of, further_tables, IsSlot, StandsBehind, first_slots}
use Rattle.heap_model.specs.Heap.{IsChain, Tiles}
use Rattle.master_table.specs.declared.slots.Row.{Row}
use Rattle.master_table.specs.declared.slots.TableStart.{TableStart}
use Rattle.master_table.specs.declared.slots.OneTable.{OneTable}
use Rattle.master_table.specs.declared.table.EmptySlot.{EmptySlot}

-- some chunks tile the image
abbrev pub IsTiled : List ℕ → Type 0
IsTiled image = (chunks : List Chunk) × Tiles image chunks

-- the tables from a word `next` on
abbrev pub tables_from : List ℕ → ℕ → List Table
tables_from image next = tables_within (length image) image next

-- one of the further tables has its body at a place, and `before` slots come before its own
pub record StartsFurther (image : List ℕ) (place before : ℕ) : Type 0 where
  pub front : List Table
  pub table : Table
  pub rest : List Table
  pub parts : further_tables image ≡ front ++ table ∷ rest
  pub there : table.place ≡ place
  pub count : before ≡ slot_count image + length (slots_further front)

-- a further table has its body at a place, or the place is 0 for the first table. `before` slots
-- come before the table's own.
abbrev pub StartsAt : List ℕ → ℕ → ℕ → Type 0
StartsAt image place before = ((place ≡ 0) × (before ≡ 0)) ⊎ StartsFurther image place before

-- it is the start of a table of the image
abbrev pub IsStart : List ℕ → TableStart → Type 0
IsStart image start = StartsAt image start.place start.before

-- the last of some further tables has its body at a place, and `before` slots come before its own
pub record EndsFurther (image : List ℕ) (tables : List Table) (place before : ℕ) : Type 0 where
  pub front : List Table
  pub table : Table
  pub parts : tables ≡ front ++ table ∷ []
  pub there : table.place ≡ place
  pub count : before ≡ slot_count image + length (slots_further front)

-- the same, or there is none of these further tables, and the place is 0 for the first table
abbrev pub EndsAt : List ℕ → List Table → ℕ → ℕ → Type 0
EndsAt image tables place before = ((tables ≡ []) × (place ≡ 0) × (before ≡ 0)) ⊎ EndsFurther image tables place before

-- it is the start of the last table of the image
abbrev pub IsLastStart : List ℕ → TableStart → Type 0
IsLastStart image start = EndsAt image (further_tables image) start.place start.before

-- the offset of the word `next` of the table at a place, or of the first table's if the place is 0
abbrev pub next_word : List ℕ → ℕ → ℕ
next_word image zero = table_end image
next_word image (suc before) = suc before

-- how many slots come before those of a row, and how many the list has up to its last
abbrev pub row_start : Row → ℕ
row_start row = row.before

abbrev pub row_end : Row → ℕ
row_end row = row.before + row.count

-- These are the slots of a table of the image, with `before` slots before them. The tables that the
-- word `next` leads to follow it. It is the first table, or the last of the further tables
-- `passed`.
pub record IsRow (image : List ℕ) (row : Row) : Type 0 where
  pub front : List ℕ
  pub parts : slots_of image ≡ front ++ (slots_in_row row.first row.count ++ slots_further (tables_from image row.next))
  pub before : length front ≡ row.before
  pub some : 0 < row.count
  pub chain : (chunks : List Chunk) → Tiles image chunks → IsChain image chunks row.next (tables_from image row.next)
  pub passed : List Table
  pub tables : further_tables image ≡ passed ++ tables_from image row.next
  pub numbers : row.before + row.count ≡ slot_count image + length (slots_further passed)
  pub start : EndsAt image passed row.place row.before

-- the row of the next table follows another directly
pub record Behind (image : List ℕ) (row other : Row) : Type 0 where
  pub is_row : IsRow image other
  pub start : row_start other ≡ row_end row
  pub fewer : length (tables_from image other.next) < length (tables_from image row.next)

-- the slot count that was read from an only table
abbrev pub count_of : OneTable → ℕ
count_of table = table.count

-- the image has no chain of tables, and this is the slot count of its only one
abbrev pub IsOneTable : List ℕ → OneTable → Type 0
IsOneTable image table = (is_chained image ≡ false) × (count_of table ≡ slot_count image)

-- a slot is there, and holds this place, which isn't 0
pub record HoldsPlace (image : List ℕ) (slot place : ℕ) : Type 0 where
  pub is_slot : IsSlot image slot
  pub held : u32_at image slot ≡ place
  pub some : 0 < place

-- no slot is there, or an empty slot
abbrev pub HoldsNothing : List ℕ → ℕ → Type 0
HoldsNothing image slot = IsSlot image slot → u32_at image slot ≡ 0

-- the first `count` slots are in use
abbrev pub UsedBefore : List ℕ → ℕ → Type 0
UsedBefore image count = EveryOne (λ slot. u32_at image slot ≢ 0) (first_slots image count)

-- none of the first `count` slots has this name
abbrev pub NotAmong : List ℕ → ℕ → ℕ → Type 0
NotAmong image count name = EveryOne (λ slot. slot ≢ name) (first_slots image count)

-- how many of the first `count` slots are empty
abbrev pub empty_before : List ℕ → ℕ → ℕ
empty_before image count = count_by (λ slot. u32_at image slot == 0) (first_slots image count)

-- the slot with this number is empty, and this is it
pub record IsEmptyAt (image : List ℕ) (number : ℕ) (free : EmptySlot) : Type 0 where
  pub stands : StandsBehind image free.name.0 number
  pub empty : u32_at image free.name.0 ≡ 0
  pub count : free.before ≡ number

-- the slot with this number is in use
abbrev pub IsUsedAt : List ℕ → ℕ → Type 0
IsUsedAt image number = (slot : ℕ) → StandsBehind image slot number → u32_at image slot ≢ 0

-- the first empty slot, and how many come before it
pub record IsFirstEmpty (image : List ℕ) (slot before : ℕ) : Type 0 where
  pub stands : StandsBehind image slot before
  pub is_slot : IsSlot image slot
  pub empty : u32_at image slot ≡ 0
  pub used : UsedBefore image before
