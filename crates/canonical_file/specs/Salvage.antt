-- What is salvaged from a damaged file: the database of its sound parts, and the lines about the
-- others. The rules are this project's own.
--
-- A file of at least `header_size` bytes has a header. An offset is sound if a block can begin
-- there. The entries and info blocks with a sound offset are kept. So nothing of a file without
-- fault is lost, and of another file each part without fault is kept.
use Rattle.std.specs.Prelude.{◌≡◌, ◌-◌, ◌/◌, ◌==◌, ◌&&◌, ◌||◌, ◌++◌, not, min, nat_lt, nat_le, if◌then◌else◌, ℕ, zero, suc, Bool, List, [], ◌∷◌, length, filter, slice_index, slice_range, Option, Some, None, codes, decimal}
use Rattle.std.specs.List.{AllZip, concat, fold}
use Rattle.heap_model.specs.Bytes.{u32_at}
use Rattle.heap_model.specs.Lists.{numbered}
use Rattle.heap_model.specs.DatabaseFields.{app_info_at, sort_info_at, next_list_at, header_size, entry_size}
use Rattle.heap_model.specs.Database.{DatabaseHeader, Database, Entry, a_record, a_resource, entry_data, data_in, is_deleted, name_in, header_in, resources_in, entry_count_in, entry_in}
use Rattle.heap_model.specs.UniqueIds.{seed_in, with_seed}
use Rattle.heap_model.specs.Store.{unique_ids}
use Rattle.heap_model.specs.Files.{HaveIds, IsReadAs, entries_end, file_of, starts_behind}
use Rattle.canonical_file.specs.Changes.{word}
use Rattle.canonical_file.specs.declared.salvage.SalvagedIds.{SalvagedIds}
use Rattle.canonical_file.specs.declared.salvage.SalvagedIds.TheVariants.{Distinct, Exact}

-- ---- what is sound

-- A block can begin at this offset. It isn't before the end of the entries, as many as the header
-- gives, and isn't after the end of the file.
abbrev pub is_sound_offset : List ℕ → ℕ → Bool
is_sound_offset file at = nat_le (entries_end file) at && nat_le at (length file)

-- The data of the entry can begin at its offset. A deleted record with the offset 0 has no data.
abbrev pub is_sound_entry : List ℕ → Entry ℕ → Bool
is_sound_entry file (a_record attributes id at) = is_sound_offset file at || (is_deleted attributes && (at == 0))
is_sound_entry file (a_resource kind id at) = is_sound_offset file at

-- the offset of an info block, if it is sound, or else 0: there is no such block
abbrev pub sound_info : List ℕ → ℕ → ℕ
sound_info file at = if is_sound_offset file at then at else 0

-- The number of entries that the file has as a whole. It is less than the header gives if the file
-- ends before its entries do.
abbrev pub whole_entries : List ℕ → ℕ
whole_entries file = min (entry_count_in file) ((length file - header_size) / entry_size (resources_in file))

-- the name of the new database: `Recovered` for an empty name
abbrev pub sound_name : List ℕ → List ℕ
sound_name [] = codes "Recovered"
sound_name (byte ∷ bytes) = byte ∷ bytes

-- the header of the new database, but for the seed
abbrev pub sound_header : List ℕ → DatabaseHeader
sound_header file = record (header_in file) { name = sound_name (name_in file) }

-- The sound parts of a file, with their offsets in the file. The entries are in their order.
unfoldable pub sound_in : List ℕ → Database ℕ
sound_in file = record {
  header = sound_header file;
  app_info = sound_info file (u32_at file app_info_at);
  sort_info = sound_info file (u32_at file sort_info_at);
  entries = filter (is_sound_entry file) (numbered (entry_in file) (whole_entries file));
}

-- ---- its blocks

-- The offsets of the blocks by their rank: AppInfo, SortInfo, and the data of the kept entries in
-- order. The offset 0 means that there is no block.
abbrev pub sound_offsets : List ℕ → List ℕ
sound_offsets file = data_in (sound_in file)

-- the offset where a block ends: where the next block of a sound offset begins, or at the end of the
-- file
abbrev pub sound_end : List ℕ → ℕ → ℕ → ℕ
sound_end file rank at = fold min (length file) (starts_behind (sound_offsets file) rank at)

-- the block of a rank that begins at an offset, if that isn't 0
abbrev pub sound_block : List ℕ → ℕ → ℕ → Option (List ℕ)
sound_block file rank zero = None
sound_block file rank (suc at) = Some (slice_range file (suc at) (sound_end file rank (suc at)))

-- the blocks by their rank
abbrev pub sound_blocks : List ℕ → List (Option (List ℕ))
sound_blocks file = numbered (λ rank. sound_block file rank (slice_index (sound_offsets file) rank)) (length (sound_offsets file))

-- ---- the new file

-- The IDs of the kept records are these, and this is the seed. Distinct IDs are given as to the
-- records of a file without fault. Exact IDs are those of the file, with 0 and IDs that occur twice.
abbrev pub HaveIdsBy : SalvagedIds → List ℕ → List ℕ → ℕ → Type 0
HaveIdsBy Distinct file given last_seed = HaveIds (seed_in (header_in file).seed) (unique_ids (sound_in file)) given last_seed
HaveIdsBy Exact file given last_seed = (given ≡ unique_ids (sound_in file)) × (last_seed ≡ seed_in (header_in file).seed)

-- The database that is salvaged from a file. It has the file's header, with a name. It has the sound
-- entries, none of them busy, and the blocks that begin at the sound offsets.
pub record IsSalvaged (rule : SalvagedIds) (file : List ℕ) (database : Database (Option (List ℕ))) : Type 0 where
  pub last_seed : ℕ
  pub ids : HaveIdsBy rule file (unique_ids database) last_seed
  pub header : database.header ≡ record (sound_header file) { seed = with_seed (header_in file).seed last_seed }
  pub entries : AllZip IsReadAs (sound_in file).entries database.entries
  pub blocks : data_in database ≡ sound_blocks file

-- these bytes are the file that is written for the database that is salvaged from a file
pub record Salvages (rule : SalvagedIds) (file bytes : List ℕ) : Type 0 where
  pub database : Database (Option (List ℕ))
  pub salvaged : IsSalvaged rule file database
  pub written : bytes ≡ file_of database

-- ---- the lines about what is not sound, in the order of the faults

-- the file has all of its entries
abbrev pub has_all_entries : List ℕ → Bool
has_all_entries file = nat_le (entries_end file) (length file)

-- The line about the number of entries. It has the index of the first entry that isn't whole.
abbrev pub count_line : List ℕ → List ℕ
count_line file = codes "entries " ++ (decimal (entry_count_in file) ++ (codes ": the file ends in entry " ++ (decimal (whole_entries file) ++ codes "\n")))

-- the file ends before its entries do
abbrev pub cut_line : List ℕ → List ℕ
cut_line file = word (not (has_all_entries file)) (count_line file)

-- the header refers to a further list of entries
abbrev pub chain_line : List ℕ → List ℕ
chain_line file = word (not (u32_at file next_list_at == 0)) (codes "chained list: ignored\n")

-- the name is empty
abbrev pub name_line : List ℕ → List ℕ
name_line file = word (length (name_in file) == 0) (codes "name empty: Recovered\n")

-- The end of a line about an offset that isn't sound. An offset after the end of the file can also
-- be before the end of the entries, if the file ends before them.
abbrev pub unsound_words : List ℕ → ℕ → List ℕ
unsound_words file at = if nat_lt (length file) at then codes " beyond the end: dropped\n" else codes " within the entries: dropped\n"

-- the end of the line about a part with an offset that isn't sound
abbrev pub dropped_at : List ℕ → ℕ → List ℕ
dropped_at file at = codes " offset " ++ (decimal at ++ unsound_words file at)

-- there is no info block, or its offset is sound
abbrev pub is_none_or_sound : List ℕ → ℕ → Bool
is_none_or_sound file at = (at == 0) || is_sound_offset file at

-- the offset of an info block isn't sound
abbrev pub lost_info_line : List ℕ → List ℕ → ℕ → List ℕ
lost_info_line file part at = word (not (is_none_or_sound file at)) (part ++ dropped_at file at)

-- the line about the entry at an index, with its offset
abbrev pub dropped_entry : List ℕ → ℕ → ℕ → List ℕ
dropped_entry file index at = codes "entry " ++ (decimal index ++ dropped_at file at)

-- the entry at an index isn't sound
abbrev pub lost_entry_line : List ℕ → ℕ → List ℕ
lost_entry_line file index = word (not (is_sound_entry file (entry_in file index))) (dropped_entry file index (entry_data (entry_in file index)))

-- the lines about the header, about the info blocks, and about the whole entries in their order
abbrev pub head_lines : List ℕ → List ℕ
head_lines file = cut_line file ++ (chain_line file ++ name_line file)

abbrev pub lost_app_line : List ℕ → List ℕ
lost_app_line file = lost_info_line file (codes "app") (u32_at file app_info_at)

abbrev pub lost_sort_line : List ℕ → List ℕ
lost_sort_line file = lost_info_line file (codes "sort") (u32_at file sort_info_at)

abbrev pub lost_info_lines : List ℕ → List ℕ
lost_info_lines file = lost_app_line file ++ lost_sort_line file

abbrev pub lost_entry_lines : List ℕ → List ℕ
lost_entry_lines file = concat (numbered (lost_entry_line file) (whole_entries file))

-- all lines
unfoldable pub salvage_lines : List ℕ → List ℕ
salvage_lines file = head_lines file ++ (lost_info_lines file ++ lost_entry_lines file)
