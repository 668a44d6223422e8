-- The entry of a record with its own ID is the one that is read with the IDs of the file.
use Rattle.std.proofs.Common.{◌≡◌, ℕ, ◌+◌, ◌<◌, Bool, true, false, None, Option, Some, List, get_or, refl, sym, ap, ◌∙◌}
use Rattle.heap_model.specs.Bytes.{u24_at}
use Rattle.heap_model.specs.Database.{Entry, a_record, entry_with, entry_at, entry_in, entry_offset, entry_count_in, resources_in, database_in}
use Rattle.heap_model.specs.Store.{unique_id, unique_ids}
use Rattle.heap_model.specs.Files.{idle_attributes, idle_entry, blocks_in}
use Rattle.pdb_format.specs.ReadFiles.{entry_read, entry_read_at}
use Rattle.file_ids.proofs.GivenLaws.{id_there}

own_at : (resources : Bool) (file : List ℕ) (start at given : ℕ) (block : Option (List ℕ))
    → (resources ≡ false → given ≡ u24_at file (start + 5))
    → entry_with (λ _. at) (idle_entry (entry_at resources file start))
    ≡ entry_with (λ _. at) (entry_read (entry_at resources file start) given block)
own_at false file start at given block own =
    ap (λ (n : ℕ). a_record (idle_attributes (get_or file (start + 4) 0)) n at) (sym (own refl))
own_at true file start at given block own = refl

some_id : (resources : Bool) (file : List ℕ) (start : ℕ) → resources ≡ false
    → Some (u24_at file (start + 5)) ≡ unique_id (entry_at resources file start)
some_id false file start records = refl
some_id true file start records = absurd cc

pub own_id : (file : List ℕ) (index : ℕ) → index < entry_count_in file → resources_in file ≡ false
    → get_or (unique_ids (database_in file)) index 0
    ≡ u24_at file (entry_offset (resources_in file) index + 5)
own_id file index inside records =
    id_there file index _ records inside
    (some_id (resources_in file) file (entry_offset (resources_in file) index) records)

pub own_read : (file : List ℕ) (index at : ℕ) (entry : Entry ℕ) → entry ≡ entry_in file index
    → index < entry_count_in file
    → entry_with (λ _. at) (idle_entry entry)
    ≡ entry_with (λ _. at) (entry_read_at file (unique_ids (database_in file)) index)
own_read file index at entry is inside =
    ap (λ (e : Entry ℕ). entry_with (λ _. at) (idle_entry e)) is
    ∙ own_at (resources_in file) file
    (entry_offset (resources_in file) index) at (get_or (unique_ids (database_in file)) index 0)
    (get_or (blocks_in file) (2 + index) None) (own_id file index inside)
