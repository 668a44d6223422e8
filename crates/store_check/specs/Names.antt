-- The names of the databases that are listed.
use Rattle.std.specs.Prelude.{◌<◌, ◌+◌, ◌*◌, ◌%◌, ℕ, List, take}
use Rattle.heap_model.specs.Bytes.{u32_at}
use Rattle.heap_model.specs.DatabaseFields.{name_size}
use Rattle.heap_model.specs.Database.{HasName}
use Rattle.bit_sets.specs.Sets.{IsInSet}
use Rattle.store_check.specs.Listing.{listed_count, header_at}

-- each database that is listed has a name: this is known if no name is bad
pub record HaveNames (image : List ℕ) : Type 0 where
  pub names : (db : ℕ) → db < listed_count image → HasName (header_at image db)

-- how many numbers there are for names
abbrev pub name_numbers : ℕ
name_numbers = 262139

-- the number of a field for a name, from its words: each word is multiplied by a number of its own
abbrev pub field_number : List ℕ → ℕ
field_number field =
    (u32_at field 0 + 3 * u32_at field 4 + 5 * u32_at field 8 + 7 * u32_at field 12
    + (11 * u32_at field 16 + 13 * u32_at field 20 + 17 * u32_at field 24 + 19 * u32_at field 28))
    % name_numbers

-- the number of the name in the bytes of a header
abbrev pub name_number : List ℕ → ℕ
name_number bytes = field_number (take name_size bytes)

-- the numbers of the names of the databases before an index are in the set
abbrev pub HasNamesBefore : List ℕ → List ℕ → ℕ → Type 0
HasNamesBefore image seen db = (earlier : ℕ) → earlier < db → IsInSet seen (name_number (header_at image earlier))
