-- The differences between a file and its canonical form. The words are in the order in which they
-- are printed.
use Rattle.std.specs.Prelude.{◌≡◌, ◌↔◌, ◌<◌, ◌≤◌, ◌++◌, ◌||◌, ⊤, not, if◌then◌else◌, ℕ, zero, suc, Bool, true, false, List, [], ◌∷◌, take, Option, codes, IsTrue, IsFalse}
use Rattle.heap_model.specs.DatabaseFields.{name_size}
use Rattle.heap_model.specs.Database.{Database, Entry, a_record, a_resource, name_field, name_in, entry_count_in, entry_in, database_in}
use Rattle.heap_model.specs.Store.{unique_ids}
use Rattle.heap_model.specs.Files.{Reads, idle_attributes, offsets_in}
use Rattle.pdb_format.specs.Filler.{filler_in, written_filler}
use Rattle.canonical_file.specs.Canonical.{IsCanonical}
use Rattle.canonical_file.specs.declared.changes.Changes.{Changes}

-- ---- the properties that a canonical form has

-- the entry is a resource, or a record that isn't busy: its attributes stay the same without the
-- busy bit
abbrev pub IsIdle : Entry ℕ → Type 0
IsIdle (a_record attributes id at) = idle_attributes attributes ≡ attributes
IsIdle (a_resource kind id at) = ⊤

-- busy: no record is busy
abbrev pub NoneIsBusy : List ℕ → Type 0
NoneIsBusy file = (index : ℕ) → index < entry_count_in file → IsIdle (entry_in file index)

-- filler: there are exactly two zeros between the entries and the first block
abbrev pub HasPlainFiller : List ℕ → Type 0
HasPlainFiller file = filler_in file ≡ written_filler

-- ids: in the database that is read each record has the ID that it has in the file
abbrev pub KeepsIds : List ℕ → Type 0
KeepsIds file = (database : Database (Option (List ℕ))) → Reads file database → unique_ids database ≡ unique_ids (database_in file)

-- name: the name is followed by zeros, up to the end of its field
abbrev pub HasPlainName : List ℕ → Type 0
HasPlainName file = take name_size file ≡ name_field (name_in file)

-- Offsets rise. An offset of 0 is ignored. Each other offset is at least `low`, and at least each
-- offset before it.
abbrev pub AreRising : ℕ → List ℕ → Type 0
AreRising low [] = ⊤
AreRising low (zero ∷ offsets) = AreRising low offsets
AreRising low (suc at ∷ offsets) = (low ≤ suc at) × AreRising (suc at) offsets

-- order: the blocks are in the order of the list, AppInfo first, then SortInfo, then the data of
-- the entries
abbrev pub IsInOrder : List ℕ → Type 0
IsInOrder file = AreRising 0 (offsets_in file)

-- ---- what changes

-- a word is set exactly if the file doesn't have its property
abbrev pub IsSetUnless : Bool → Type 0 → Type 0
IsSetUnless word Kept = IsFalse word ↔ Kept

-- no word is set
abbrev pub is_none : Changes → Bool
is_none changes = not (changes.busy || (changes.filler || (changes.ids || (changes.name || changes.order))))

-- These are the changes of a file. The file is its canonical form exactly if no word is set.
pub record AreChanges (file : List ℕ) (changes : Changes) : Type 0 where
  pub busy : IsSetUnless changes.busy (NoneIsBusy file)
  pub filler : IsSetUnless changes.filler (HasPlainFiller file)
  pub ids : IsSetUnless changes.ids (KeepsIds file)
  pub name : IsSetUnless changes.name (HasPlainName file)
  pub order : IsSetUnless changes.order (IsInOrder file)
  pub canonical : (bytes : List ℕ) → IsCanonical file bytes → (IsTrue (is_none changes) ↔ (bytes ≡ file))

-- ---- how it is printed

abbrev pub word : Bool → List ℕ → List ℕ
word true text = text
word false text = []

unfoldable pub words_line : Changes → List ℕ
words_line changes =
    codes "changes"
    ++ (word changes.busy (codes " busy")
    ++ (word changes.filler (codes " filler")
    ++ (word changes.ids (codes " ids")
    ++ (word changes.name (codes " name")
    ++ (word changes.order (codes " order")
    ++ codes "\n")))))

-- the line that lists the changes
unfoldable pub changes_line : Changes → List ℕ
changes_line changes = if is_none changes then codes "canonical\n" else words_line changes
