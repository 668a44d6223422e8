-- The names of categories in the AppInfo block of a database.
--
-- Palm OS applications that sort records by category begin AppInfo with a standard layout
-- (`AppInfoType` of the Palm OS Programmer's API Reference): 2 bytes of flags, 16 fields of 16 bytes
-- for the names, 16 bytes of category IDs, and 2 bytes. Nothing in a file says whether it has this
-- layout, so the rule here is this project's own.
use Rattle.std.specs.Prelude.{◌+◌, ◌*◌, ◌==◌, ◌&&◌, not, nat_lt, nat_le, if◌then◌else◌, ℕ, Bool, List, [], ◌∷◌, length, take, drop, slice_index_or, option_map, Option, Some, None}
use Rattle.std.specs.List.{list_all, range_with_len}
use Rattle.heap_model.specs.Categories.{categories, category_of}
use Rattle.heap_model.specs.Database.{is_deleted, name_in, resources_in}
use Rattle.heap_model.specs.Files.{blocks_in}

-- ---- the layout

-- the size of a name's field, and where the first field begins
abbrev pub field_size : ℕ
field_size = 16

abbrev pub fields_at : ℕ
fields_at = 2

abbrev pub layout_size : ℕ
layout_size = 276

-- ---- the names

-- the bytes from the field of a category on, up to the first zero
abbrev pub text_at : List ℕ → ℕ → List ℕ
text_at app number = name_in (drop (fields_at + field_size * number) app)

-- no control character of ASCII
abbrev pub is_character : ℕ → Bool
is_character byte = nat_le 32 byte && not (byte == 127)

-- The field has a zero, and no control character before it.
unfoldable pub has_name : List ℕ → ℕ → Bool
has_name app number = nat_lt (length (text_at app number)) field_size && list_all is_character (text_at app number)

-- each field has a name
unfoldable pub all_named : List ℕ → Bool
all_named app = list_all (has_name app) (range_with_len 0 categories)

-- An AppInfo block has the names of categories: it is long enough, each field has a name, and that of
-- category 0 isn't empty. A name may be empty: there is no such category.
unfoldable pub has_names : List ℕ → Bool
has_names app = nat_le layout_size (length app) && (all_named app && not (length (text_at app 0) == 0))

-- ---- of a file

-- these bytes of AppInfo, if it has the names of categories
abbrev pub if_names : Option (List ℕ) → Option (List ℕ)
if_names None = None
if_names (Some app) = if has_names app then Some app else None

-- the layout in AppInfo, if it has the names of categories
abbrev pub categories_in : List ℕ → Option (List ℕ)
categories_in file = if resources_in file then None else if_names (option_map (take layout_size) (slice_index_or (blocks_in file) 0 None))

-- the name of a category, unless it is empty
abbrev pub unless_empty : List ℕ → Option (List ℕ)
unless_empty [] = None
unless_empty (byte ∷ bytes) = Some (byte ∷ bytes)

abbrev pub category_name : List ℕ → ℕ → Option (List ℕ)
category_name app number = unless_empty (text_at app number)

-- the name of the category of a record, if AppInfo has one; a deleted record has no category
abbrev pub name_by : Option (List ℕ) → ℕ → Option (List ℕ)
name_by None number = None
name_by (Some app) number = category_name app number

abbrev pub record_category : (names : Option (List ℕ)) → (attributes : ℕ) → Option (List ℕ)
record_category names attributes = if is_deleted attributes then None else name_by names (category_of attributes)
