-- Further tables that are remembered, each by its place, in a list of entries; and a table from
-- which few steps lead to the last.
use Rattle.std.specs.Prelude.{◌≡◌, ◌<◌, ◌+◌, ◌-◌, ◌≤◌, ◌⊎◌, ◌%◌, ℕ, List, [], ◌∷◌, slice_index}
use Rattle.heap_model.specs.Slots.{Table, further_tables}
use Rattle.heap_model.specs.MoreTables.{gained_count}
use Rattle.master_table.specs.declared.slots.TableStart.{TableStart}
use Rattle.master_table.specs.Table.{IsStart}

-- the places of further tables in a list of entries, and the start of a table
pub record Remembered : Type 0 where
  pub places : List ℕ
  pub latest : TableStart

-- the entry of a block of an image
abbrev pub entry_of_block : ℕ → ℕ
entry_of_block block = block % 16384

-- no entry has a place
abbrev pub KnowsNone : List ℕ → Type 0
KnowsNone places = (entry : ℕ) → slice_index places entry ≡ 0

-- one of the tables has its body at a place, and at least as many slots as a new table
abbrev pub HasLongTable : List Table → ℕ → Type 0
HasLongTable [] place = ⊥
HasLongTable (table ∷ tables) place = ((table.place ≡ place) × (gained_count ≤ table.count)) ⊎ HasLongTable tables place

-- Each entry that isn't 0 is the place of a further table of the image. The table has at least as
-- many slots as a new one. The start is that of a table of the image.
pub record KnowsTables (image : List ℕ) (known : Remembered) : Type 0 where
  pub entries : (entry : ℕ) → 0 < slice_index known.places entry → HasLongTable (further_tables image) (slice_index known.places entry)
  pub latest : IsStart image known.latest

-- each entry is as it was, or is this place; the start is as it was
pub record RemembersPlace (old new : Remembered) (place : ℕ) : Type 0 where
  pub entries : (entry : ℕ) → (slice_index new.places entry ≡ slice_index old.places entry) ⊎ (slice_index new.places entry ≡ place)
  pub latest : new.latest ≡ old.latest

-- one of the entries has this place, or it is 0
abbrev pub IsEntry : List ℕ → ℕ → Type 0
IsEntry places place = (entry : ℕ) × (place ≡ slice_index places entry)

-- the word at an offset is one of the 15 after the first word of the body at a place
pub record IsWordOf (place slot : ℕ) : Type 0 where
  pub some : 0 < place
  pub behind : place < slot
  pub near : slot < place + 64
  pub whole : (slot - place) % 4 ≡ 0
