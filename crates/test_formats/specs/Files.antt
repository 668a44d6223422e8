-- Files to try the definitions on.
use Rattle.std.specs.Prelude.{◌-◌, ◌++◌, ℕ, List, [], ◌∷◌, length, replicate, codes}
use Rattle.heap_model.specs.Bytes.{u16_bytes, u32_bytes}
use Rattle.heap_model.specs.Database.{DatabaseHeader}
use Rattle.test_formats.specs.HeapImages.{words}

-- a header without dates: the name's field, attributes and version, the offsets of info blocks, the
-- type, the seed and the number of entries
abbrev pub header : List ℕ → ℕ → ℕ → ℕ → ℕ → ℕ → ℕ → List ℕ
header name attributes_version app_info sort_info kind seed count =
    name ++ replicate (32 - length name) 0 ++ u32_bytes attributes_version ++ replicate 16 0
    ++ words (app_info ∷ sort_info ∷ kind ∷ 0x54657374 ∷ seed ∷ 0 ∷ []) ++ u16_bytes count

-- what the header of such a file says, where the database has no attributes and the version 0
abbrev pub sample_header : List ℕ → ℕ → DatabaseHeader
sample_header name seed = record { name = name; attributes = 0; version = 0; creation_date = 0; modification_date = 0; backup_date = 0; modification_number = 0; kind = 0x44415441; creator = 0x54657374; seed = seed }

-- no entries
abbrev pub empty_file : List ℕ
empty_file = header (codes "Empty") 0 0 0 0x44415441 0 0

-- Three records. The first and the last have one offset, and the block of the second stands before
-- theirs; one has the ID 0, and two have 5.
abbrev pub order_file : List ℕ
order_file =
    header (codes "Order") 0 0 0 0x44415441 0 3 ++ words (0x6C ∷ 0 ∷ 0x68 ∷ 0x03000005 ∷ 0x6C ∷ 0x20000005 ∷ [])
    ++ 0 ∷ 0 ∷ words (0x42424242 ∷ 0x43434343 ∷ [])

-- the file that is written of it
abbrev pub order_written : List ℕ
order_written =
    header (codes "Order") 0 0 0 0x44415441 2 3 ++ words (0x68 ∷ 1 ∷ 0x68 ∷ 0x03000005 ∷ 0x6C ∷ 2 ∷ [])
    ++ 0 ∷ 0 ∷ words (0x42424242 ∷ 0x43434343 ∷ [])

-- two records, without a byte of data, whose seed is near the greatest ID
abbrev pub ids_file : List ℕ
ids_file = header (codes "Ids") 0 0 0 0x44415441 0x07FFFFFE 2 ++ words (0x60 ∷ 0x00FFFFFF ∷ 0x60 ∷ 1 ∷ []) ++ 0 ∷ 0 ∷ []

-- two resources
abbrev pub resource_file : List ℕ
resource_file =
    header (codes "Tiny") 0x00010001 0 0 0x6170706C 0 2 ++ words (0x74535452 ∷ 0x03E80000 ∷ 0x00647453 ∷ 0x545203E9 ∷ 0x00000067 ∷ [])
    ++ 0 ∷ 0 ∷ 0x48 ∷ 0x69 ∷ 0 ∷ 0x59 ∷ 0x6F ∷ 0 ∷ []

-- two records and both info blocks, which stand against their order, and none of which is empty
abbrev pub backward_file : List ℕ
backward_file = header (codes "Back") 0 100 98 0x44415441 0 2 ++ words (96 ∷ 1 ∷ 94 ∷ 2 ∷ []) ++ 1 ∷ 2 ∷ 3 ∷ 4 ∷ 5 ∷ 6 ∷ 7 ∷ []

-- Five records and both info blocks, of which this is the offset of SortInfo. The name's field has
-- no zero; after the entries are two bytes that no block has; the blocks stand against the order of
-- the list; where that is 124, three begin at one offset; a deleted record has no data and
-- another's begins where the file ends; three have one ID, and the seed is the greatest ID.
abbrev pub odd_file : ℕ → List ℕ
odd_file sort_info =
    header (replicate 32 0x41) 0x00080000 124 sort_info 0x44415441 0xB0FFFFFF 5
    ++ words (124 ∷ 0x33000007 ∷ 120 ∷ 0x00000007 ∷ 0 ∷ 0xE0000007 ∷ 130 ∷ 0xA0000000 ∷ 122 ∷ 0x40000000 ∷ [])
    ++ 9 ∷ 9 ∷ 1 ∷ 2 ∷ 3 ∷ 4 ∷ 5 ∷ 6 ∷ 7 ∷ 8 ∷ 9 ∷ 10 ∷ []

-- the field of a name with other bytes after its first zero
abbrev pub noisy_name : List ℕ
noisy_name = 0x41 ∷ 0 ∷ replicate 30 0x42
