-- The content of a database, which is given by its bytes: how many entries it has, and the one of
-- an index.
use Rattle.pdb_files.proofs.Words.{◌≡◌, ℕ, suc, ◌+◌, ◌<◌, Option, List, ◌∷◌, length, map, get_or, drop, refl, sym, ap, ◌∙◌, arith, add-one, drop-cons, length-map, get_or-map, length-map-range_with_len, get_or-map-range_with_len, ChunkMap, numbered, u32_at, app_info_at, sort_info_at, Database, Entry, a_record, a_resource, entry_data, entry_with, header_in, resources_in, entry_offset, entry_in, entry_count_in, database_in, bytes_named, content, idle_attributes, idle_entry, idle, block_size, block_offset, with_offsets, first_block, length-with_offsets, ArePlaces, file_entry}
use Rattle.db_format.specs.declared.header.DbHeader.{DbHeader}
use Rattle.db_format.specs.Headers.{IsHeaderOf}
use Rattle.pdb_files.specs.declared.exporting.places.Places.{Places}

-- the entries
abbrev pub entries_of : ChunkMap → List ℕ → List (Entry (Option (List ℕ)))
entries_of chunks bytes = (content chunks (database_in bytes)).entries

entries_are : (chunks : ChunkMap) (bytes : List ℕ) → entries_of chunks bytes
    ≡ map (entry_with (bytes_named chunks)) (numbered (entry_in bytes) (entry_count_in bytes))
unfolding database_in
entries_are chunks bytes = refl

pub length-entries : (chunks : ChunkMap) (bytes : List ℕ)
    → length (entries_of chunks bytes) ≡ entry_count_in bytes
length-entries chunks bytes = ap length (entries_are chunks bytes) ∙ length-map
    (numbered (entry_in bytes) (entry_count_in bytes)) (entry_with (bytes_named chunks))
    ∙ length-map-range_with_len (entry_in bytes) 0 (entry_count_in bytes)

entry_at : (chunks : ChunkMap) (bytes : List ℕ) (i : ℕ) → i < entry_count_in bytes
    → get_or (entries_of chunks bytes) i (entry_with (bytes_named chunks) (entry_in bytes i))
    ≡ entry_with (bytes_named chunks) (entry_in bytes i)
entry_at chunks bytes i below =
    let count = entry_count_in bytes in
    let long = length-map-range_with_len (entry_in bytes) 0 count in
    ap (λ (es : List (Entry (Option (List ℕ)))). get_or es i
    (entry_with (bytes_named chunks) (entry_in bytes i))) (entries_are chunks bytes)
    ∙ get_or-map (entry_with (bytes_named chunks)) (numbered (entry_in bytes) count) i
    (entry_in bytes i) (entry_with (bytes_named chunks) (entry_in bytes i)) (omega arith)
    ∙ ap (entry_with (bytes_named chunks))
    (get_or-map-range_with_len (entry_in bytes) 0 count i i (entry_in bytes i) below (omega arith))

-- the entries from an index on
pub entry_here : (chunks : ChunkMap) (bytes : List ℕ) (i : ℕ) → i < entry_count_in bytes
    → drop i (entries_of chunks bytes)
    ≡ entry_with (bytes_named chunks) (entry_in bytes i) ∷ drop (i + 1) (entries_of chunks bytes)
entry_here chunks bytes i below =
    let long = length-entries chunks bytes in
    let one = entry_with (bytes_named chunks) (entry_in bytes i) in
    rw (add-one, drop-cons (entries_of chunks bytes) i one (omega arith))
    (ap (λ (e : Entry (Option (List ℕ))). e ∷ drop (suc i) (entries_of chunks bytes))
    (entry_at chunks bytes i below))

-- ---- its info blocks

pub app_block : (chunks : ChunkMap) (bytes : List ℕ) (slot : ℕ) → slot ≡ u32_at bytes app_info_at
    → (content chunks (database_in bytes)).app_info ≡ bytes_named chunks slot
unfolding database_in
app_block chunks bytes slot is = ap (bytes_named chunks) (sym is)

pub sort_block : (chunks : ChunkMap) (bytes : List ℕ) (slot : ℕ) → slot ≡ u32_at bytes sort_info_at
    → (content chunks (database_in bytes)).sort_info ≡ bytes_named chunks slot
unfolding database_in
sort_block chunks bytes slot is = ap (bytes_named chunks) (sym is)

pub same_offset : (at other : ℕ) (block same : Option (List ℕ)) → at ≡ other → block ≡ same
    → block_offset at block ≡ block_offset other same
same_offset at other block same e f =
    ap (λ (n : ℕ). block_offset n block) e ∙ ap (block_offset other) f

-- ---- its header

-- where the first block is
pub first_block_is : (chunks : ChunkMap) (bytes : List ℕ) → first_block (content chunks
    (database_in bytes)) ≡ entry_offset (resources_in bytes) (entry_count_in bytes) + 2
unfolding database_in header_in
first_block_is chunks bytes =
    ap (λ (n : ℕ). entry_offset (resources_in bytes) n + 2) (length-entries chunks bytes)

-- the header of a database, with these offsets, is that of its file
pub header_placed : (chunks : ChunkMap) (d : Database ℕ) (header : DbHeader) (places : Places)
    → IsHeaderOf d header → ArePlaces (content chunks d) places
    → IsHeaderOf (with_offsets (first_block (content chunks d)) (idle (content chunks d)))
    (record header { app_info = places.app_info; sort_info = places.sort_info })
header_placed chunks d header places has are =
    let c : Database (Option (List ℕ)) = content chunks d in
    let at : ℕ = first_block c + block_size c.app_info + block_size c.sort_info in
    let count = length-with_offsets at (map idle_entry c.entries) ∙ length-map c.entries idle_entry
    ∙ length-map d.entries (entry_with (bytes_named chunks)) in
    record {
      values = has.values;
      app_info = are.app_info;
      sort_info = are.sort_info;
      entry_count = has.entry_count ∙ sym count;
    }

-- an entry as its file has it
pub entry_in_file : (chunks : ChunkMap) (at offset : ℕ) (entry : Entry ℕ)
    → offset ≡ block_offset at (bytes_named chunks (entry_data entry))
    → entry_with (λ _. offset) (idle_entry entry) ≡ file_entry chunks at entry
entry_in_file chunks at offset (a_record attributes id slot) is =
    ap (a_record (idle_attributes attributes) id) is
entry_in_file chunks at offset (a_resource kind id slot) is = ap (a_resource kind id) is
