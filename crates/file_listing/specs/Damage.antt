-- The place of a fault in a file, the number that the file has there, and the numbers that are
-- allowed there.
use Rattle.std.specs.Prelude.{◌≡◌, ◌↔◌, ◌+◌, ◌<◌, ◌≤◌, ◌⊎◌, ⊤, ℕ, Bool, true, false, List, length, slice_index, nat_lt, if◌then◌else◌}
use Rattle.heap_model.specs.Bytes.{AreBytes, u32_at}
use Rattle.heap_model.specs.DatabaseFields.{header_size, next_list_at, resource_data_at}
use Rattle.heap_model.specs.Database.{Entry, a_record, a_resource, resources_in, entry_count_in, entry_in, entry_offset, is_deleted}
use Rattle.heap_model.specs.Files.{HasFault, entries_end}
use Rattle.heap_model.specs.declared.file_fault.FileFault.{FileFault}
use Rattle.heap_model.specs.declared.file_fault.FileFault.TheVariants.{Truncated, ChainedList, EmptyName, BadInfo, BadOffset}
use Rattle.db_format.specs.Headers.{info_block_at}
use Rattle.file_listing.specs.declared.damage.Damage.{Damage}
use Rattle.file_listing.specs.declared.damage.Damage.TheVariants.{Short, NotZero, Zero, InfoOutside, RecordOutside, ResourceOutside}

-- the offset, in an entry, of the field with the offset of its data
abbrev pub data_field : Bool → ℕ
data_field true = resource_data_at
data_field false = 0

-- The offset of the field that has the fault. The fault of a truncated file is at its end.
abbrev pub fault_place : List ℕ → FileFault → ℕ
fault_place file Truncated = length file
fault_place file ChainedList = next_list_at
fault_place file EmptyName = 0
fault_place file (BadInfo which) = info_block_at which
fault_place file (BadOffset index) = entry_offset (resources_in file) index + data_field (resources_in file)

-- a truncated file needs its header, or its list of entries
abbrev pub short_of : List ℕ → Damage
short_of file = Short (length file) (if nat_lt (length file) header_size then header_size else entries_end file)

-- a block begins after the entries, and within the file
abbrev pub outside : List ℕ → ℕ → Damage
outside file found = if resources_in file then ResourceOutside found (entries_end file) (length file) else RecordOutside found (entries_end file) (length file)

abbrev pub found_at : List ℕ → FileFault → ℕ
found_at file fault = u32_at file (fault_place file fault)

abbrev pub damage_of : List ℕ → FileFault → Damage
damage_of file Truncated = short_of file
damage_of file ChainedList = NotZero (found_at file ChainedList)
damage_of file EmptyName = Zero
damage_of file (BadInfo which) = InfoOutside (found_at file (BadInfo which)) (entries_end file) (length file)
damage_of file (BadOffset index) = outside file (found_at file (BadOffset index))

-- ---- the law of the allowed numbers

-- the number at the place of a fault: the size of the file if it is truncated, the first byte of the
-- name if that is empty, and the number of the field otherwise
abbrev pub number_at : List ℕ → FileFault → ℕ
number_at file Truncated = length file
number_at file ChainedList = found_at file ChainedList
number_at file EmptyName = slice_index file 0
number_at file (BadInfo which) = found_at file (BadInfo which)
number_at file (BadOffset index) = found_at file (BadOffset index)

-- whether the fault is that of a deleted record
abbrev pub is_deleted_record : Entry ℕ → Bool
is_deleted_record (a_record attributes id at) = is_deleted attributes
is_deleted_record (a_resource kind id at) = false

abbrev pub is_of_deleted : List ℕ → FileFault → Bool
is_of_deleted file Truncated = false
is_of_deleted file ChainedList = false
is_of_deleted file EmptyName = false
is_of_deleted file (BadInfo which) = false
is_of_deleted file (BadOffset index) = is_deleted_record (entry_in file index)

-- a block may begin here
abbrev pub IsBetween : (least most number : ℕ) → Type 0
IsBetween least most number = (least ≤ number) × (number ≤ most)

-- a number is allowed at the place of the fault, by what is printed of it
abbrev pub Allows : Damage → (of_deleted : Bool) → ℕ → Type 0
Allows (Short found least) of_deleted number = least ≤ number
Allows (NotZero found) of_deleted number = number ≡ 0
Allows Zero of_deleted number = IsBetween 1 255 number
Allows (InfoOutside found least most) of_deleted number = (number ≡ 0) ⊎ IsBetween least most number
Allows (RecordOutside found least most) of_deleted number = IsBetween least most number ⊎ ((number ≡ 0) × (of_deleted ≡ true))
Allows (ResourceOutside found least most) of_deleted number = IsBetween least most number

-- the number that is printed as the one found
abbrev pub found_in : Damage → ℕ
found_in (Short found least) = found
found_in (NotZero found) = found
found_in Zero = 0
found_in (InfoOutside found least most) = found
found_in (RecordOutside found least most) = found
found_in (ResourceOutside found least most) = found

-- the entry of the fault, if it is that of an entry, is one of the file
abbrev pub HasItsEntry : List ℕ → FileFault → Type 0
HasItsEntry file Truncated = ⊤
HasItsEntry file ChainedList = ⊤
HasItsEntry file EmptyName = ⊤
HasItsEntry file (BadInfo which) = ⊤
HasItsEntry file (BadOffset index) = index < entry_count_in file

-- A file has the fault exactly if the number at its place isn't allowed there. That number is
-- printed then.
pub record IsExact (file : List ℕ) (fault : FileFault) : Type 0 where
  pub exact : HasFault file fault ↔ (Allows (damage_of file fault) (is_of_deleted file fault) (number_at file fault) → ⊥)
  pub found : HasFault file fault → found_in (damage_of file fault) ≡ number_at file fault

abbrev pub DamagesAreExact : Type 0
DamagesAreExact = (file : List ℕ) (fault : FileFault) → AreBytes file → HasItsEntry file fault → IsExact file fault
