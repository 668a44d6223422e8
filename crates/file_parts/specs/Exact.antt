-- Files as they stand, byte for byte. An exact folder has the values and the parts of such a file.
--
-- A file without fault is, in this order: the name, and the bytes after it in its field; the other
-- fields of the header; the entries; the filler; and the blocks, ordered by their offsets and then
-- by their ranks. The rank of a block is 0 for AppInfo, 1 for SortInfo, and 2 more than its index
-- for the data of an entry.
use Rattle.std.specs.Prelude.{◌≡◌, ◌+◌, ◌==◌, ◌&&◌, ◌++◌, nat_lt, if◌then◌else◌, ℕ, Bool, List, [], ◌∷◌, length, map, take, drop, slice_index, slice_index_or, Option, None}
use Rattle.std.specs.List.{AllZip, concat, flat_map}
use Rattle.std.specs.List.Sorted.{IsPermutation, IsNonDecreasingBy}
use Rattle.heap_model.specs.DatabaseFields.{name_size}
use Rattle.heap_model.specs.Lists.{numbered}
use Rattle.heap_model.specs.Database.{Database, Entry, a_record, a_resource, data_in, entry_with, fields_behind_name, entry_bytes, entry_offset, has_resources, name_in, header_in, entry_count_in, entry_in, database_in}
use Rattle.heap_model.specs.Files.{HasNoFault, blocks_in, offsets_in, block_bytes, block_size}
use Rattle.pdb_format.specs.Filler.{filler_in}
use Rattle.pdb_format.specs.Starts.{start_of, starts_in, order}

-- ---- the values and the blocks

-- A file as it stands. Its database has the attributes and the IDs of the file, and each block is
-- its bytes. The order has the ranks of the blocks that are there.
pub record ExactFile : Type 0 where
  pub database : Database (Option (List ℕ))
  pub after_name : List ℕ
  pub filler : List ℕ
  pub order : List ℕ

-- an entry has the values of an entry of the file; its data may be any
abbrev pub HasValuesOf : Entry ℕ → Entry (Option (List ℕ)) → Type 0
HasValuesOf (a_record attributes id at) (a_record other_attributes other_id block) = (other_attributes ≡ attributes) × (other_id ≡ id)
HasValuesOf (a_record attributes id at) (a_resource other_kind other_id block) = ⊥
HasValuesOf (a_resource kind id at) (a_record other_attributes other_id block) = ⊥
HasValuesOf (a_resource kind id at) (a_resource other_kind other_id block) = (other_kind ≡ kind) × (other_id ≡ id)

-- The ranks of the blocks that a file has, each once, in the order of the blocks: by their offsets,
-- and at one offset by rank.
pub record IsOrderOf (offsets ranks : List ℕ) : Type 0 where
  pub all : IsPermutation (starts_in offsets) (map (start_of offsets) ranks)
  pub rising : IsNonDecreasingBy order (map (start_of offsets) ranks)

-- a file without fault is this one: nothing of it is changed or left out
pub record IsExactly (file : List ℕ) (exact : ExactFile) : Type 0 where
  pub good : HasNoFault file
  pub header : exact.database.header ≡ header_in file
  pub name_field : exact.database.header.name ++ exact.after_name ≡ take name_size file
  pub entries : AllZip HasValuesOf (database_in file).entries exact.database.entries
  pub blocks : data_in exact.database ≡ blocks_in file
  pub filler : exact.filler ≡ filler_in file
  pub order : IsOrderOf (offsets_in file) exact.order

-- the entries of a file as they stand, with their data
abbrev pub exact_entry : List ℕ → ℕ → Entry (Option (List ℕ))
exact_entry file index = entry_with (λ _. slice_index_or (blocks_in file) (2 + index) None) (entry_in file index)

-- the database of a file as it stands
unfoldable pub exact_database : List ℕ → Database (Option (List ℕ))
exact_database file = record {
  header = header_in file;
  app_info = slice_index_or (blocks_in file) 0 None;
  sort_info = slice_index_or (blocks_in file) 1 None;
  entries = numbered (exact_entry file) (entry_count_in file);
}

-- what a file without fault is, if these are the ranks of its blocks in their order
abbrev pub exact_in : List ℕ → List ℕ → ExactFile
exact_in file ranks = record {
  database = exact_database file;
  after_name = drop (length (name_in file)) (take name_size file);
  filler = filler_in file;
  order = ranks;
}

-- ---- the bytes

-- the block of a rank
abbrev pub exact_block : ExactFile → ℕ → Option (List ℕ)
exact_block exact rank = slice_index_or (data_in exact.database) rank None

-- the offset where the block of a rank begins, if blocks come in this order from an offset on; 0 if
-- the rank isn't among them
abbrev pub offset_among : (ℕ → Option (List ℕ)) → ℕ → List ℕ → ℕ → ℕ
offset_among block at [] rank = 0
offset_among block at (next ∷ ranks) rank = if next == rank then at else offset_among block (at + block_size (block next)) ranks rank

-- the offset of the first block: after the entries and the filler
abbrev pub exact_start : ExactFile → ℕ
exact_start exact = entry_offset (has_resources exact.database.header.attributes) (length exact.database.entries) + length exact.filler

-- the offset of the block of a rank
abbrev pub exact_offset : ExactFile → ℕ → ℕ
exact_offset exact rank = offset_among (exact_block exact) (exact_start exact) exact.order rank

-- entries with these offsets; the first entry has this rank
abbrev pub entries_placed : (ℕ → ℕ) → ℕ → List (Entry (Option (List ℕ))) → List (Entry ℕ)
entries_placed place rank [] = []
entries_placed place rank (entry ∷ entries) = entry_with (λ _. place rank) entry ∷ entries_placed place (rank + 1) entries

-- its database, with offsets
abbrev pub exact_placed : ExactFile → Database ℕ
exact_placed exact = record {
  header = exact.database.header;
  app_info = exact_offset exact 0;
  sort_info = exact_offset exact 1;
  entries = entries_placed (exact_offset exact) 2 exact.database.entries;
}

-- the bytes of the blocks, in their order
unfoldable pub exact_blocks : ExactFile → List ℕ
exact_blocks exact = flat_map (λ rank. block_bytes (exact_block exact rank)) exact.order

-- the bytes of the file
unfoldable pub exact_bytes : ExactFile → List ℕ
exact_bytes exact =
    exact.database.header.name
    ++ (exact.after_name
    ++ (concat (fields_behind_name (exact_placed exact))
    ++ (flat_map entry_bytes (exact_placed exact).entries
    ++ (exact.filler ++ exact_blocks exact))))

-- the bytes after the entries: the filler and the blocks
abbrev pub exact_tail : ExactFile → List ℕ
exact_tail exact = exact.filler ++ exact_blocks exact

-- the size of the file
abbrev pub exact_size : ExactFile → ℕ
exact_size exact = exact_start exact + length (exact_blocks exact)

-- ---- orders that no file has

-- The block at an index of the order has no bytes, and the block after it has a lower rank. Both
-- would have one offset, and the block of the lower rank would be read as the empty one.
abbrev pub is_misplaced : ExactFile → ℕ → Bool
is_misplaced exact index =
    nat_lt (index + 1) (length exact.order)
    && nat_lt (slice_index exact.order (index + 1)) (slice_index exact.order index)
    && (block_size (exact_block exact (slice_index exact.order index)) == 0)
