-- The databases of an image by their numbers. The first in the directory has number 1.
use Rattle.std.specs.Prelude.{◌≡◌, ◌<◌, ◌==◌, if◌then◌else◌, ℕ, zero, suc, Bool, List, length, slice_index}
use Rattle.std.specs.List.{list_any}
use Rattle.heap_model.specs.Database.{data_in, database_in}
use Rattle.heap_check.specs.Owners.{marked_word}
use Rattle.store_check.specs.Listing.{header_at, listed_count}

-- whether this slot is among some slots
abbrev pub has_slot : List ℕ → ℕ → Bool
has_slot slots slot = list_any (λ other. other == slot) slots

-- the slots of the data of a database: its info blocks and its entries
abbrev pub named_slots : List ℕ → ℕ → List ℕ
named_slots image db = data_in (database_in (header_at image db))

-- Of the databases with numbers up to this one, the number of the last that names a slot. It is 0
-- if none of them does.
abbrev pub last_naming_below : List ℕ → ℕ → ℕ → ℕ
last_naming_below image zero slot = 0
last_naming_below image (suc db) slot = if has_slot (named_slots image db) slot then suc db else last_naming_below image db slot

-- The number of the database that names a slot, or 0 if none does. In an accepted image no two
-- databases name the same slot.
unfoldable pub database_number : List ℕ → ℕ → ℕ
database_number image slot = last_naming_below image (listed_count image) slot

-- each entry of a table is the number that a function gives for the entry's word
abbrev pub HasNumbers : (ℕ → ℕ) → List ℕ → Type 0
HasNumbers number table = (k : ℕ) → k < length table → slice_index table k ≡ number (marked_word k)

-- the entries of words that are among some slots have this number, and all other entries are
-- unchanged
abbrev pub NotesSlots : List ℕ → ℕ → List ℕ → List ℕ → Type 0
NotesSlots slots number old new = (k : ℕ) → k < length old → slice_index new k ≡ (if has_slot slots (marked_word k) then number else slice_index old k)
