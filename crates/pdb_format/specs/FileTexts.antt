-- The parts of the file of a database.
use Rattle.std.specs.Prelude.{◌+◌, ℕ, List, map, Option}
use Rattle.std.specs.List.{flat_map}
use Rattle.heap_model.specs.Database.{Database, Entry, entry_data, header_bytes, entry_bytes, data_in}
use Rattle.heap_model.specs.Files.{idle_entry, idle, block_bytes, block_size, entries_with_offsets, with_offsets, first_block}

-- the offset of the data of the entries
abbrev pub data_at : Database (Option (List ℕ)) → ℕ
data_at database = first_block database + block_size database.app_info + block_size database.sort_info

-- the header
abbrev pub header_text : Database (Option (List ℕ)) → List ℕ
header_text database = header_bytes (with_offsets (first_block database) (idle database))

-- the entries, with offsets for their data, which begins at an offset
abbrev pub entries_text : ℕ → List (Entry (Option (List ℕ))) → List ℕ
entries_text first entries = flat_map entry_bytes (entries_with_offsets first (map idle_entry entries))

-- their data
abbrev pub data_text : List (Entry (Option (List ℕ))) → List ℕ
data_text entries = flat_map block_bytes (map entry_data entries)

-- the blocks
abbrev pub blocks_text : Database (Option (List ℕ)) → List ℕ
blocks_text database = flat_map block_bytes (data_in database)
