-- What was read of a file is written back as that file.
use Rattle.palmheap_c.proofs.Words.{◌≡◌, ℕ, zero, suc, ◌+◌, ◌<◌, ◌≤◌, Bool, true, false, List, [], ◌∷◌, ◌++◌, length, get_or, take, drop, refl, sym, ap, subst, ◌∙◌, arith, inl, inr, ◌&&◌, All, nat_le, slice_index, AllZip, list_all, range_with_len, and_from, le-leb, get_or-map, length-map, All-head, All-tail, Database, DatabaseHeader, a_record, a_resource, data_in, database_in, entry_at, entry_count_in, entry_data, entry_offset, entry_with, has_resources, header_in, name_field, name_in, resources_in, info_of, block_bytes, blocks_in, numbered, DbInfo, most_bytes, places_in, ExactFile, IsExactly, exact_database, exact_entry, exact_in, part_if, placed_well, size_is, IsInside, placed, Buffer, PutsBytes, HasDataInside, place_of_data, entry_in_c, file_entry_at, place_of_rank, database_from_c, Given, HasRefusedEntry, IsNoFile, IsReadOf, IsWriteAnswer, IsWrittenBack, are_inside, block_from_c, exact_from_c, given, has_data_inside, header_from_c, is_inside, name_from_c, named_database, named_entry, part_from_c, parts_from_c, Answer, Block, FileEntry}
use Rattle.std.proofs.Common.{Option, Some, None, map}
use Rattle.std.proofs.Math.Seq.{get_or-append_seam}
use Rattle.std.proofs.lemmas.List.{length-take}
use Rattle.heap_model.specs.Bytes.{AreBytes, u16_at, u24_at, u32_at}
use Rattle.heap_model.specs.DatabaseFields.{record_attributes_at, record_id_at, resource_id_at}
use Rattle.laws_store.proofs.Names.{length-name_field}
use Rattle.pdb_format.specs.Blocks as file_blocks
use Rattle.pdb_format.specs.Filler.{filler_in}
use Rattle.pdb_format.specs.Writable.{IsWritableEntry}
use Rattle.pdb_format.specs.declared.blocks.Block as files
use Rattle.pdb_format.proofs.FileNames.{file_named}
use Rattle.pdb_format.proofs.PlacedBlocks.{all_put}
use Rattle.file_parts.specs.Packing.{filled, part_at, with_parts}
use Rattle.file_parts.proofs.ExactRanks.{true_false}
use Rattle.file_parts.proofs.ExactRead.{is_exactly, name_front}
use Rattle.file_parts.proofs.PartsBack.{AreNamesOf, IsFilledTo, filled_back}
use Rattle.file_parts.proofs.ValuesBack.{entries_writable, few_entries, not_refused, valid_name}
use Rattle.palmheap_c.specs.declared.infos.DatabaseInfo.{DatabaseInfo}

-- ---- the header

-- so many bytes of the name's field are the name
name_size_is : (name : List ℕ) (count : ℕ) → length (name_field name) ≡ 32 → length name < 32
    → take count (name_field name) ≡ name → count ≡ length name
name_size_is name count field short is =
    let taken = length-take count (name_field name) in
    let same = ap length is in
    omega arith

abbrev with_name : DbInfo → List ℕ → DbInfo
with_name info name = record {
  name = name;
  attributes = info.attributes;
  version = info.version;
  creation_date = info.creation_date;
  modification_date = info.modification_date;
  backup_date = info.backup_date;
  modification_number = info.modification_number;
  kind = info.kind;
  creator = info.creator;
  seed = info.seed;
  entry_count = info.entry_count;
}

read_name : (file : List ℕ) (info : DbInfo) → info ≡ info_of (database_in file)
    → info.name ≡ name_in file
unfolding database_in header_in
read_name file info is = ap (λ (one : DbInfo). one.name) is

abbrev values_of : DbInfo → DatabaseHeader
values_of info = record {
  name = info.name;
  attributes = info.attributes;
  version = info.version;
  creation_date = info.creation_date;
  modification_date = info.modification_date;
  backup_date = info.backup_date;
  modification_number = info.modification_number;
  kind = info.kind;
  creator = info.creator;
  seed = info.seed;
}

read_values : (file : List ℕ) (info : DbInfo) → info ≡ info_of (database_in file)
    → values_of info ≡ header_in file
unfolding database_in header_in
read_values file info is = ap values_of is

-- the header that is written
module _ (file : List ℕ) (it : Given) (is : IsReadOf file it) where
  count_is : is.new.header.name_length ≡ length (name_in file)
  count_is =
      let valid = file_named file is.read.good in
      let named = read_name file (database_from_c is.new.header) is.read.header_is in
      name_size_is (name_in file) is.new.header.name_length (length-name_field (name_in file) valid)
      valid.room (ap (take is.new.header.name_length) (sym is.read.name_is) ∙ named)

  name_back : name_from_c it.header ≡ name_in file
  name_back =
      ap name_from_c is.header
      ∙ ap (λ (count : ℕ). take count (take 32 file)) count_is
      ∙ name_front file

  after_back : drop it.header.name_length it.header.name
      ≡ drop (length (name_in file)) (take 32 file)
  after_back =
      ap (λ (header : DatabaseInfo). drop header.name_length header.name) is.header
      ∙ ap (λ (count : ℕ). drop count (take 32 file)) count_is

  info_back : database_from_c it.header ≡ info_of (database_in file)
  info_back =
      let named = read_name file (database_from_c is.new.header) is.read.header_is in
      ap database_from_c is.header ∙ ap (with_name (database_from_c is.new.header))
      (ap (λ (count : ℕ). take count (take 32 file)) count_is ∙ name_front file ∙ sym named)
      ∙ is.read.header_is

  header_back : header_from_c it.header ≡ header_in file
  header_back = read_values file (database_from_c it.header) info_back

  kind_back : has_resources it.header.attributes ≡ resources_in file
  unfolding header_in
  kind_back = ap (λ (header : DatabaseHeader). has_resources header.attributes) header_back

-- ---- the blocks

place_found : (file : List ℕ) (places : List (Option files.Block)) (rank : ℕ)
    → file_blocks.bytes_at file (get_or places rank None)
    ≡ get_or (map (file_blocks.bytes_at file) places) rank None
place_found file [] rank = refl
place_found file (place ∷ places) zero = refl
place_found file (place ∷ places) (suc rank) = place_found file places rank

block_found : (file : List ℕ) (rank : ℕ) → file_blocks.bytes_at file
    (get_or (places_in file) rank None) ≡ get_or (blocks_in file) rank None
block_found file rank = place_found file (places_in file) rank
    ∙ ap (λ (blocks : List (Option (List ℕ))). get_or blocks rank None)
    (all_put file (places_in file) refl)

part_found : (file : List ℕ) (place : Option files.Block) (block : Option (List ℕ))
    → file_blocks.bytes_at file place ≡ block → block_from_c file (placed place) ≡ block_bytes block
part_found file None block is = ap block_bytes is
part_found file (Some place) block is = ap block_bytes is

name_filled : (file : List ℕ) (place : Option files.Block) (block : Option (List ℕ))
    → file_blocks.bytes_at file place ≡ block
    → filled (block_bytes block) (part_if (placed place).is_there) ≡ block
name_filled file None block is = is
name_filled file (Some place) block is =
    ap (λ (b : Option (List ℕ)). Some (block_bytes b)) (sym is) ∙ is

entry_filled : (r : Bool) (file : List ℕ) (at : ℕ) (place : Option files.Block)
    (block : Option (List ℕ)) → file_blocks.bytes_at file place ≡ block → IsFilledTo (named_entry r
    (entry_in_c (entry_at r file at) (placed place))) (entry_with (λ _. block) (entry_at r file at))
entry_filled false file at place block is =
    ap (λ (b : Option (List ℕ)). a_record (slice_index file (at + record_attributes_at))
    (u24_at file (at + record_id_at)) b) (name_filled file place block is)
entry_filled true file at place block is =
    ap (λ (b : Option (List ℕ)). a_resource (u32_at file at) (u16_at file (at + resource_id_at)) b)
    (name_filled file place block is)

entry_part : (r : Bool) (file : List ℕ) (at : ℕ) (place : Option files.Block)
    (block : Option (List ℕ)) → file_blocks.bytes_at file place ≡ block
    → part_from_c file (entry_in_c (entry_at r file at) (placed place))
    ≡ block_bytes (entry_data (entry_with {Data = ℕ} (λ _. block) (entry_at r file at)))
entry_part false file at place block is = part_found file place block is
entry_part true file at place block is = part_found file place block is

entries_filled : (file : List ℕ) (ranks : List ℕ)
    → AllZip IsFilledTo (map (named_entry (resources_in file)) (map (file_entry_at file) ranks))
    (map (exact_entry file) ranks)
entries_filled file [] = tt
entries_filled file (index ∷ ranks) = (
  entry_filled (resources_in file) file (entry_offset (resources_in file) index)
      (get_or (places_in file) (2 + index) None) (get_or (blocks_in file) (2 + index) None)
      (block_found file (2 + index)),
  entries_filled file ranks,
)

entries_parts : (file : List ℕ) (ranks : List ℕ) → map (part_from_c file) (map (file_entry_at file)
    ranks) ≡ map block_bytes (map entry_data (map (exact_entry file) ranks))
entries_parts file [] = refl
entries_parts file (index ∷ ranks) =
    ap (λ (part : List ℕ). part ∷ map (part_from_c file) (map (file_entry_at file) ranks))
    (entry_part (resources_in file) file (entry_offset (resources_in file) index)
    (get_or (places_in file) (2 + index) None) (get_or (blocks_in file) (2 + index) None)
    (block_found file (2 + index)))
    ∙ ap (λ (parts : List (List ℕ)). block_bytes (entry_data (exact_entry file index)) ∷ parts)
    (entries_parts file ranks)

-- ---- all of it

abbrev whole : Database (Option (List ℕ)) → (after filler order : List ℕ) → ExactFile
whole database after filler order =
    record { database = database; after_name = after; filler = filler; order = order }

-- what is given, if the header and the order are these
abbrev read_with : List ℕ → DatabaseInfo → List ℕ → Given
read_with file header order = given file header (place_of_rank file 0) (place_of_rank file 1)
    (numbered (file_entry_at file) (entry_count_in file)) (filler_in file) order

module _ (file : List ℕ) (header : DatabaseInfo) (order : List ℕ)
    (same : header_from_c header ≡ header_in file)
    (kind : has_resources header.attributes ≡ resources_in file) where
  names_are : AreNamesOf (exact_database file) (named_database (read_with file header order))
  unfolding exact_database
  names_are = record {
    header = same;
    app = name_filled file (get_or (places_in file) 0 None) (get_or (blocks_in file) 0 None)
        (block_found file 0);
    sort = name_filled file (get_or (places_in file) 1 None) (get_or (blocks_in file) 1 None)
        (block_found file 1);
    entries =
        subst (λ (r : Bool). AllZip IsFilledTo (map (named_entry r) (numbered (file_entry_at file)
        (entry_count_in file))) (numbered (exact_entry file) (entry_count_in file))) (sym kind)
        (entries_filled file (range_with_len 0 (entry_count_in file)));
  }

  parts_are : parts_from_c (read_with file header order)
      ≡ map block_bytes (data_in (exact_database file)) ++ filler_in file ∷ []
  unfolding exact_database
  parts_are =
      let rest : List (List ℕ) = map (part_from_c file)
      (numbered (file_entry_at file) (entry_count_in file)) ++ filler_in file ∷ [] in
      ap (λ (part : List ℕ). part ∷ block_from_c file (place_of_rank file 1) ∷ rest) (part_found
      file (get_or (places_in file) 0 None) (get_or (blocks_in file) 0 None) (block_found file 0))
      ∙ ap (λ (part : List ℕ). block_bytes (get_or (blocks_in file) 0 None) ∷ part ∷ rest)
      (part_found file (get_or (places_in file) 1 None) (get_or (blocks_in file) 1 None)
      (block_found file 1)) ∙ ap (λ (parts : List (List ℕ)). block_bytes (get_or (blocks_in file) 0
      None) ∷ block_bytes (get_or (blocks_in file) 1 None) ∷ (parts ++ filler_in file ∷ []))
      (entries_parts file (range_with_len 0 (entry_count_in file)))

  pub database_back : with_parts (parts_from_c (read_with file header order))
      (named_database (read_with file header order)) ≡ exact_database file
  database_back = ap (λ (parts : List (List ℕ)). with_parts parts
      (named_database (read_with file header order))) parts_are ∙ filled_back (exact_database file)
      (named_database (read_with file header order)) (filler_in file ∷ []) names_are

  block_long : length (data_in (named_database (read_with file header order)))
      ≡ length (map block_bytes (data_in (exact_database file)))
  unfolding exact_database
  block_long =
      let entries : List FileEntry = numbered (file_entry_at file) (entry_count_in file) in
      let named = length-map entries (named_entry (has_resources header.attributes)) in
      let data_long = length-map (map (named_entry (has_resources header.attributes)) entries)
      (entry_data {Data = Option (List ℕ)}) in
      let ranks : List ℕ = range_with_len 0 (entry_count_in file) in
      let listed = length-map ranks (file_entry_at file) in
      let exact = length-map ranks (exact_entry file) in
      let exact_data =
      length-map (map (exact_entry file) ranks) (entry_data {Data = Option (List ℕ)}) in
      let bytes = length-map (data_in (exact_database file)) block_bytes in
      omega arith

  pub filler_back : part_at (parts_from_c (read_with file header order))
      (length (data_in (named_database (read_with file header order)))) ≡ filler_in file
  filler_back =
      let blocks : List (List ℕ) = map block_bytes (data_in (exact_database file)) in
      ap (λ (parts : List (List ℕ)). part_at parts
      (length (data_in (named_database (read_with file header order))))) parts_are
      ∙ ap (part_at (blocks ++ filler_in file ∷ [])) block_long
      ∙ get_or-append_seam blocks (filler_in file) [] []

module _ (file : List ℕ) (it : Given) (is : IsReadOf file it) where
  all_back : it ≡ read_with file it.header it.order
  all_back = ap (λ (bytes : List ℕ).
      given bytes it.header it.app it.sort it.entries it.filler it.order) is.bytes
      ∙ ap (λ (app : Block). given file it.header app it.sort it.entries it.filler it.order) (is.app
      ∙ is.read.app_is) ∙ ap (λ (sort : Block). given file it.header (place_of_rank file 0) sort
      it.entries it.filler it.order) (is.sort ∙ is.read.sort_is) ∙ ap (λ (entries : List FileEntry).
      given file it.header (place_of_rank file 0) (place_of_rank file 1) entries it.filler it.order)
      (is.entries ∙ is.read.entries_are ∙ ap (numbered (file_entry_at file)) is.read.counted)
      ∙ ap (λ (filler : List ℕ). given file it.header (place_of_rank file 0) (place_of_rank file 1)
      (numbered (file_entry_at file) (entry_count_in file)) filler it.order) is.filler

  same_file : exact_from_c it ≡ exact_in file (exact_from_c it).order
  same_file =
      let order : List ℕ = (exact_from_c it).order in
      let g : Given = read_with file it.header it.order in
      let same = header_back file it is in
      let kind = kind_back file it is in
      ap (λ (one : Given). whole (exact_from_c one).database
      (drop it.header.name_length it.header.name) (exact_from_c one).filler order) all_back
      ∙ ap (λ (database : Database (Option (List ℕ))). whole database
      (drop it.header.name_length it.header.name) (exact_from_c g).filler order)
      (database_back file it.header it.order same kind)
      ∙ ap (λ (after : List ℕ). whole (exact_database file) after (exact_from_c g).filler order)
      (after_back file it is) ∙ ap (λ (filler : List ℕ). whole (exact_database file)
      (drop (length (name_in file)) (take 32 file)) filler order)
      (filler_back file it.header it.order same kind)

  -- the file is exactly what is given
  pub exactly_read : IsExactly file (exact_from_c it)
  exactly_read = subst (IsExactly file) (sym same_file)
      (is_exactly file (exact_from_c it).order is.read.good is.order)

-- ---- the places

inside_there : (there : Bool) (start end size : ℕ) → (start ≤ end) × (end ≤ size)
    → is_inside size (record { start = start; end = end; is_there = there }) ≡ true
inside_there false start end size is = refl
inside_there true start end size is =
    and_from (nat_le start end) (nat_le end size) (le-leb start end is.0) (le-leb end size is.1)

place_inside : (size : ℕ) (block : Block) → IsInside size block → is_inside size block ≡ true
place_inside size block is = inside_there block.is_there block.start block.end size is

entries_inside : (size : ℕ) (entries : List FileEntry) → All (HasDataInside size) entries
    → list_all (has_data_inside size) entries ≡ true
entries_inside size [] all = refl
entries_inside size (entry ∷ entries) all =
    and_from (has_data_inside size entry) (list_all (has_data_inside size) entries)
    (place_inside size (place_of_data entry) (All-head (HasDataInside size) entry entries all))
    (entries_inside size entries (All-tail (HasDataInside size) entry entries all))

all_inside : (size : ℕ) (app sort : Block) (entries : List FileEntry) → IsInside size app
    → IsInside size sort → All (HasDataInside size) entries → (is_inside size app
    && (is_inside size sort && list_all (has_data_inside size) entries)) ≡ true
all_inside size app sort entries app_is sort_is data_is = and_from (is_inside size app)
    (is_inside size sort && list_all (has_data_inside size) entries) (place_inside size app app_is)
    (and_from (is_inside size sort) (list_all (has_data_inside size) entries)
    (place_inside size sort sort_is) (entries_inside size entries data_is))

read_inside : (file : List ℕ) (it : Given) → IsReadOf file it → are_inside it ≡ true
read_inside file it is =
    let size : ℕ = length it.bytes in
    let same : length file ≡ size = ap length (sym is.bytes) in
    all_inside size it.app it.sort it.entries (subst (λ (n : ℕ). IsInside n it.app) same
    (subst (IsInside (length file)) (sym is.app) is.read.app_inside))
    (subst (λ (n : ℕ). IsInside n it.sort) same (subst (IsInside (length file))
    (sym is.sort) is.read.sort_inside)) (subst (λ (n : ℕ). All (HasDataInside n) it.entries) same
    (subst (All (HasDataInside (length file))) (sym is.entries) is.read.data_inside))

-- ---- nothing is refused

module _ (file : List ℕ) (it : Given) (b : AreBytes file)
    (is : IsExactly file (exact_from_c it)) where
  good_entries : HasRefusedEntry (has_resources it.header.attributes) it.entries → ⊥
  good_entries (index, entry, inside, here, inl full) =
      let long = length-map it.entries (named_entry (has_resources it.header.attributes)) in
      let few = few_entries file (named_database it)
      (drop it.header.name_length it.header.name) it.order (parts_from_c it) b is in
      omega arith
  good_entries (index, entry, inside, here, inr bad) =
      let r : Bool = has_resources it.header.attributes in
      let long = length-map it.entries (named_entry r) in
      let all = entries_writable file (named_database it)
      (drop it.header.name_length it.header.name) it.order (parts_from_c it) b is in
      let one = get_or-map (named_entry r) it.entries index entry (named_entry r entry) inside
      ∙ ap (named_entry r) here in
      bad (subst (IsWritableEntry r) one (all index (named_entry r entry) (omega arith)))

  pub some_file : are_inside it ≡ true → IsNoFile it → ⊥
  some_file within (inl name) = name (valid_name file (named_database it)
      (drop it.header.name_length it.header.name) it.order (parts_from_c it) b is)
  some_file within (inr (inl entry)) = good_entries entry
  some_file within (inr (inr (inl outside))) = true_false (sym within ∙ outside)
  some_file within (inr (inr (inr (inl none)))) = not_refused file (named_database it)
      (drop it.header.name_length it.header.name) it.order (parts_from_c it) b is none
  some_file within (inr (inr (inr (inr (index, misplaced))))) =
      true_false (sym misplaced ∙ placed_well file (exact_from_c it) b is index)

pub written_back : (file : List ℕ) (it : Given) (old new : Buffer) (found : Answer) → AreBytes file
    → length file ≤ most_bytes → IsReadOf file it → IsWriteAnswer it old new found
    → IsWrittenBack file old new found
written_back file it old new found b short read (inl (bytes, written, puts)) =
    inl (subst (λ (bs : List ℕ). PutsBytes bs old.bytes new.bytes new.count found)
    (written.back file b (exactly_read file it read)) puts)
written_back file it old new found b short read (inr (inl (is, none), same)) =
    absurd (some_file file it b (exactly_read file it read) (read_inside file it read) none)
written_back file it old new found b short read (inr (inr (inl (is, large)), same)) =
    absurd (let size = size_is file (exact_from_c it) b (exactly_read file it read) in omega arith)
written_back file it old new found b short read (inr (inr (inr memory), same)) = inr (memory, same)
