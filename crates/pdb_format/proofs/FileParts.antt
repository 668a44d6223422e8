-- The file of a database, and its size, are put together from its header, entries and blocks.
use Rattle.std.proofs.Common.{◌≡◌, ℕ, ◌+◌, Option, List, [], ◌∷◌, ◌++◌, length, refl, arith, append_assoc, length-append}
use Rattle.heap_model.specs.Bytes.{u16_bytes, u24_bytes, u32_bytes}
use Rattle.heap_model.specs.Database.{Database, Entry, a_record, a_resource, entry_bytes, entry_data, spelled}
use Rattle.heap_model.specs.Files.{block_bytes, block_size, entries_with_offsets, file_of}
use Rattle.pdb_format.specs.FileTexts.{data_at, header_text, entries_text, data_text, blocks_text}
use Rattle.pdb_format.specs.Writable.{file_size}

pub file_parts : (d : Database (Option (List ℕ)))
    → file_of d
    ≡ header_text d ++ (entries_text (data_at d) d.entries ++ (0 ∷ 0 ∷ [] ++ blocks_text d))
unfolding file_of spelled
file_parts d =
    append_assoc (header_text d) (entries_text (data_at d) d.entries) (0 ∷ 0 ∷ blocks_text d)

pub size_parts : (d : Database (Option (List ℕ)))
    → file_size d ≡ data_at d + length (data_text d.entries)
size_parts d =
    let one = length-append (block_bytes d.app_info)
    (block_bytes d.sort_info ++ data_text d.entries) in
    let other = length-append (block_bytes d.sort_info) (data_text d.entries) in
    omega arith

pub length-with_offsets : (at : ℕ) (es : List (Entry (Option (List ℕ))))
    → length (entries_with_offsets at es) ≡ length es
length-with_offsets at [] = refl
length-with_offsets at (e ∷ es) =
    let ih = length-with_offsets (at + block_size (entry_data e)) es in omega arith

-- ---- how long they are

pub record_long : (attributes id at : ℕ) → length (entry_bytes (a_record attributes id at)) ≡ 8
unfolding entry_bytes u24_bytes u32_bytes
record_long attributes id at = refl

pub resource_long : (kind id at : ℕ) → length (entry_bytes (a_resource kind id at)) ≡ 10
unfolding entry_bytes u16_bytes u32_bytes
resource_long kind id at = refl
