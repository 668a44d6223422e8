-- How long the file of a database is.
use Rattle.pdb_files.proofs.Words.{◌≡◌, ℕ, ◌+◌, ◌*◌, Bool, true, false, Option, List, [], ◌∷◌, ◌++◌, length, map, ap, ◌∙◌, arith, length-append, All, length-map, All-head, All-tail, entry_size, ChunkMap, Database, Entry, a_record, a_resource, entry_with, has_resources, entry_bytes, EntryFits, DatabaseFits, bytes_named, content, idle_attributes, idle, block_size, block_offset, with_offsets, first_block, file_of, file_size, data_at, header_text, entries_text, file_parts, record_long, resource_long, blocks_text}
use Rattle.laws_store.proofs.Spellings.{length-header_bytes}

entries_long : (r : Bool) (chunks : ChunkMap) (at : ℕ) (es : List (Entry ℕ)) → All (EntryFits r) es
    → length (entries_text at (map (entry_with (bytes_named chunks)) es)) ≡ entry_size r * length es
entries_long r chunks at [] all = omega arith
entries_long false chunks at (a_record attributes id slot ∷ es) all =
    let entry : List ℕ = entry_bytes
    (a_record (idle_attributes attributes) id (block_offset at (bytes_named chunks slot))) in
    let behind : List ℕ = entries_text (at + block_size (bytes_named chunks slot))
    (map (entry_with (bytes_named chunks)) es) in
    let both = length-append entry behind in
    let long =
    record_long (idle_attributes attributes) id (block_offset at (bytes_named chunks slot)) in
    let rest = entries_long false chunks (at + block_size (bytes_named chunks slot)) es
    (All-tail (EntryFits false) (a_record attributes id slot) es all) in
    omega arith
entries_long true chunks at (a_record attributes id slot ∷ es) all =
    absurd (All-head (EntryFits true) (a_record attributes id slot) es all)
entries_long false chunks at (a_resource kind id slot ∷ es) all =
    absurd (All-head (EntryFits false) (a_resource kind id slot) es all)
entries_long true chunks at (a_resource kind id slot ∷ es) all =
    let entry : List ℕ =
    entry_bytes (a_resource kind id (block_offset at (bytes_named chunks slot))) in
    let behind : List ℕ = entries_text (at + block_size (bytes_named chunks slot))
    (map (entry_with (bytes_named chunks)) es) in
    let both = length-append entry behind in
    let long = resource_long kind id (block_offset at (bytes_named chunks slot)) in
    let rest = entries_long true chunks (at + block_size (bytes_named chunks slot)) es
    (All-tail (EntryFits true) (a_resource kind id slot) es all) in
    omega arith

-- the file has the length that is counted for it
pub length-file_of : (chunks : ChunkMap) (d : Database ℕ) → DatabaseFits d
    → length (file_of (content chunks d)) ≡ file_size (content chunks d)
length-file_of chunks d fits =
    let c : Database (Option (List ℕ)) = content chunks d in
    let head : List ℕ = header_text c in
    let entries : List ℕ = entries_text (data_at c) c.entries in
    let parts =
    ap length (file_parts c) ∙ length-append head (entries ++ (0 ∷ 0 ∷ [] ++ blocks_text c)) in
    let behind = length-append entries (0 ∷ 0 ∷ [] ++ blocks_text c) in
    let front = length-header_bytes (with_offsets (first_block c) (idle c)) fits.name in
    let long =
    entries_long (has_resources d.header.attributes) chunks (data_at c) d.entries fits.entries in
    let count = ap (λ (n : ℕ). entry_size (has_resources d.header.attributes) * n)
    (length-map d.entries (entry_with (bytes_named chunks))) in
    omega arith
