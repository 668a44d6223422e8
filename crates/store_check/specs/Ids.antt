-- Sets of unique IDs, as the bits of a list of bytes.
use Rattle.std.specs.Prelude.{◌≡◌, ◌<◌, ◌≤◌, ◌/◌, ◌↔◌, ℕ, List, Some}
use Rattle.heap_model.specs.Database.{entry_count_in}
use Rattle.bit_sets.specs.Sets.{IsInSet}
use Rattle.store_check.specs.Listing.{listed_count, header_at}
use Rattle.store_check.specs.Faults.{id_at}

-- no record has an ID above this one
abbrev pub HasIdsUpTo : List ℕ → ℕ → Type 0
HasIdsUpTo bytes greatest = (index id : ℕ) → index < entry_count_in bytes → id_at bytes index ≡ Some id → id ≤ greatest

-- a set of `size` bytes has room for the IDs of the records: each byte has the bits of eight
abbrev pub HasRoomForIds : List ℕ → ℕ → Type 0
HasRoomForIds bytes size = (index id : ℕ) → index < entry_count_in bytes → id_at bytes index ≡ Some id → id / 8 < size

-- a set of `size` bytes has room for the IDs of all databases that are listed
abbrev pub HasRoomForAll : List ℕ → ℕ → Type 0
HasRoomForAll image size = (db : ℕ) → db < listed_count image → HasRoomForIds (header_at image db) size

-- the IDs of the records before an index are in the set, and no others
abbrev pub HasIdsBefore : List ℕ → List ℕ → ℕ → Type 0
HasIdsBefore bytes seen index = (id : ℕ) → (IsInSet seen id ↔ ((earlier : ℕ) × (earlier < index) × (id_at bytes earlier ≡ Some id)))

-- the set has no IDs but those of the records from one index up to another
abbrev pub HasIdsWithin : List ℕ → List ℕ → ℕ → ℕ → Type 0
HasIdsWithin bytes seen from to = (id : ℕ) → IsInSet seen id → (index : ℕ) × (from ≤ index) × (index < to) × (id_at bytes index ≡ Some id)

-- the ID of each record is above 0 and above those of the records before it
abbrev pub HasRisingIds : List ℕ → Type 0
HasRisingIds bytes = (index id : ℕ) → index < entry_count_in bytes → id_at bytes index ≡ Some id → (0 < id) × ((earlier other : ℕ) → earlier < index → id_at bytes earlier ≡ Some other → other < id)
