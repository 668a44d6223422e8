-- Categories of records: which records are of one, and what calls on a category do to them.
use Rattle.std.specs.Prelude.{◌≡◌, ◌+◌, ◌*◌, ◌/◌, ◌%◌, ◌==◌, ◌&&◌, ◌||◌, not, if◌then◌else◌, bit_or, ℕ, Bool, true, false, List, map, filter}
use Rattle.heap_model.specs.Database.{Entry, a_record, a_resource, entry_data, is_deleted}
use Rattle.heap_model.specs.EntrySteps.{with_attributes, without_data}

-- ---- which records are of a category

-- how many categories there are: they are numbered from 0
abbrev pub categories : ℕ
categories = 16

-- the number that means all categories, in the calls that accept it
abbrev pub all_categories : ℕ
all_categories = 0xFF

-- the category of a record with these attributes: their low four bits
abbrev pub category_of : ℕ → ℕ
category_of attributes = attributes % categories

-- A record with these attributes is not deleted and is of the category. If the category is
-- `all_categories`, every record that is not deleted is of it.
abbrev pub has_category : ℕ → ℕ → Bool
has_category category attributes = not (is_deleted attributes) && ((category == all_categories) || (category_of attributes == category))

-- the entry is a record that is not deleted and is of the category
abbrev pub is_of : ℕ → Entry ℕ → Bool
is_of category (a_record attributes id slot) = has_category category attributes
is_of category (a_resource kind id slot) = false

abbrev pub IsOf : ℕ → Entry ℕ → Type 0
IsOf category entry = is_of category entry ≡ true

-- the names of the data of all records of a category
abbrev pub data_of_category : ℕ → List (Entry ℕ) → List ℕ
data_of_category category entries = map entry_data (filter (is_of category) entries)

-- ---- what is done to them

-- the bit of a dirty record
abbrev pub dirty_bit : ℕ
dirty_bit = 0x40

-- attributes with another category: all bits above the low four stay
abbrev pub with_category : ℕ → ℕ → ℕ
with_category category attributes = categories * (attributes / categories) + category

-- attributes with another category, and with the bit of a dirty record if that is asked
abbrev pub recategorized : ℕ → Bool → ℕ → ℕ
recategorized category dirty attributes = if dirty then bit_or (with_category category attributes) dirty_bit else with_category category attributes

-- an entry that gets the category `to` if it is of the category `from`
abbrev pub moved_category : ℕ → ℕ → Bool → Entry ℕ → Entry ℕ
moved_category to from dirty entry = if is_of from entry then with_attributes (recategorized to dirty) entry else entry

-- an entry that loses its data if it is of a category
abbrev pub deleted_category : ℕ → Entry ℕ → Entry ℕ
deleted_category category entry = if is_of category entry then without_data entry else entry
