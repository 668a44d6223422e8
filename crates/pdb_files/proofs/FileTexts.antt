-- The parts of a file in their order, and the entries and their data, one after the other.
use Rattle.pdb_files.proofs.Words.{◌≡◌, ℕ, ◌+◌, ◌<◌, ◌≤◌, Bool, true, false, Option, Result, Ok, Err, List, [], ◌∷◌, ◌++◌, length, drop, refl, sym, ap, subst, ◌∙◌, arith, length-append, common_steps, IsErr, is_ok, Writing, Writes, ChunkMap, Database, Entry, a_record, a_resource, entry_data, entry_with, entry_bytes, entry_in, entry_count_in, bytes_named, block_bytes, block_size, file_of, then, stops, nothing, data_at, header_text, entries_text, data_text, file_entry, blocks_text, file_parts}
use Rattle.pdb_files.proofs.Contents.{entries_of, length-entries, entry_here}

-- ---- the entries

one_text : (chunks : ChunkMap) (at : ℕ) (e : Entry ℕ) (es : List (Entry (Option (List ℕ))))
    → entries_text at (entry_with (bytes_named chunks) e ∷ es) ≡ entry_bytes (file_entry chunks at
    e) ++ entries_text (at + block_size (bytes_named chunks (entry_data e))) es
one_text chunks at (a_record attributes id slot) es = refl
one_text chunks at (a_resource kind id slot) es = refl

one_data : (chunks : ChunkMap) (e : Entry ℕ) (es : List (Entry (Option (List ℕ))))
    → data_text (entry_with (bytes_named chunks) e ∷ es)
    ≡ block_bytes (bytes_named chunks (entry_data e)) ++ data_text es
one_data chunks (a_record attributes id slot) es = refl
one_data chunks (a_resource kind id slot) es = refl

text_from : (chunks : ChunkMap) (bytes : List ℕ) (at i : ℕ) → i < entry_count_in bytes
    → entries_text at (drop i (entries_of chunks bytes))
    ≡ entry_bytes (file_entry chunks at (entry_in bytes i)) ++ entries_text (at + block_size
    (bytes_named chunks (entry_data (entry_in bytes i)))) (drop (i + 1) (entries_of chunks bytes))
text_from chunks bytes at i below = ap (entries_text at) (entry_here chunks bytes i below)
    ∙ one_text chunks at (entry_in bytes i) (drop (i + 1) (entries_of chunks bytes))

data_from : (chunks : ChunkMap) (bytes : List ℕ) (i : ℕ) → i < entry_count_in bytes
    → data_text (drop i (entries_of chunks bytes)) ≡ block_bytes (bytes_named chunks
    (entry_data (entry_in bytes i))) ++ data_text (drop (i + 1) (entries_of chunks bytes))
data_from chunks bytes i below = ap data_text (entry_here chunks bytes i below)
    ∙ one_data chunks (entry_in bytes i) (drop (i + 1) (entries_of chunks bytes))

-- no entry is left
pub none_left : (chunks : ChunkMap) (bytes : List ℕ) (i : ℕ) → entry_count_in bytes ≤ i
    → drop i (entries_of chunks bytes) ≡ []
none_left chunks bytes i past = let long = length-entries chunks bytes in
    grind (arith, common_steps)

-- how much data is left
pub size_from : (chunks : ChunkMap) (bytes : List ℕ) (i slot : ℕ) → i < entry_count_in bytes
    → slot ≡ entry_data (entry_in bytes i)
    → length (data_text (drop i (entries_of chunks bytes))) ≡ block_size (bytes_named chunks slot)
    + length (data_text (drop (i + 1) (entries_of chunks bytes)))
size_from chunks bytes i slot below is = ap length (data_from chunks bytes i below)
    ∙ length-append (block_bytes (bytes_named chunks (entry_data (entry_in bytes i)))) (data_text
    (drop (i + 1) (entries_of chunks bytes))) ∙ ap (λ (s : ℕ). block_size (bytes_named chunks s)
    + length (data_text (drop (i + 1) (entries_of chunks bytes)))) (sym is)

-- ---- as they are written

-- the parts of a file, whose data begins there
pub as_file : {W : Type 0} (contents : W → Option (List ℕ)) (old new : Writing W)
    (d : Database (Option (List ℕ))) (first : ℕ) (ok : Bool) → first ≡ data_at d → Writes contents
    old new (header_text d ++ (entries_text first d.entries ++ (0 ∷ 0 ∷ [] ++ blocks_text d))) ok
    → Writes contents old new (file_of d) ok
as_file contents old new d first ok is parts =
    subst (λ (text : List ℕ). Writes contents old new text ok) (sym (file_parts d))
    (subst (λ (at : ℕ). Writes contents old new
    (header_text d ++ (entries_text at d.entries ++ (0 ∷ 0 ∷ [] ++ blocks_text d))) ok) is parts)

-- the info blocks, and the data of the entries
pub as_blocks : {W : Type 0} (contents : W → Option (List ℕ)) (old new : Writing W)
    (d : Database (Option (List ℕ))) (app sort : List ℕ) (ok : Bool) → app ≡ block_bytes d.app_info
    → sort ≡ block_bytes d.sort_info
    → Writes contents old new (app ++ (sort ++ data_text d.entries)) ok
    → Writes contents old new (blocks_text d) ok
as_blocks contents old new d app sort ok app_is sort_is parts = subst (λ (text : List ℕ).
    Writes contents old new (text ++ (block_bytes d.sort_info ++ data_text d.entries)) ok) app_is
    (subst (λ (text : List ℕ). Writes contents old new (app ++ (text ++ data_text d.entries)) ok)
    sort_is parts)

-- a fault is returned
pub failed : {W A E : Type 0} (contents : W → Option (List ℕ)) (old new : Writing W) (text : List ℕ)
    (result : Result A E) → IsErr result → Writes contents old new text false
    → Writes contents old new text (is_ok result)
failed contents old new text (Ok done) wrong first = absurd cc
failed contents old new text (Err error) wrong first = first

-- an entry, and those after it
pub then_entry : {W : Type 0} (contents : W → Option (List ℕ)) (old mid new : Writing W)
    (chunks : ChunkMap) (bytes : List ℕ) (at i size : ℕ) (text : List ℕ) (ok : Bool)
    → i < entry_count_in bytes → text ≡ entry_bytes (file_entry chunks at (entry_in bytes i))
    → size ≡ block_size (bytes_named chunks (entry_data (entry_in bytes i)))
    → Writes contents old mid text true
    → Writes contents mid new (entries_text (at + size) (drop (i + 1) (entries_of chunks bytes))) ok
    → Writes contents old new (entries_text at (drop i (entries_of chunks bytes))) ok
then_entry contents old mid new chunks bytes at i size text ok below is long first rest =
    rw (text_from chunks bytes at i below, ← is, ← long)
    (then contents old mid new text _ ok first rest)

pub stops_entry : {W : Type 0} (contents : W → Option (List ℕ)) (old new : Writing W)
    (chunks : ChunkMap) (bytes : List ℕ) (at i : ℕ) (text : List ℕ) → i < entry_count_in bytes
    → text ≡ entry_bytes (file_entry chunks at (entry_in bytes i))
    → Writes contents old new text false
    → Writes contents old new (entries_text at (drop i (entries_of chunks bytes))) false
stops_entry contents old new chunks bytes at i text below is first =
    rw (text_from chunks bytes at i below, ← is) (stops contents old new text _ first)

pub no_entry : {W : Type 0} (contents : W → Option (List ℕ)) (w : Writing W) (chunks : ChunkMap)
    (bytes : List ℕ) (at i : ℕ) → entry_count_in bytes ≤ i
    → Writes contents w w (entries_text at (drop i (entries_of chunks bytes))) true
no_entry contents w chunks bytes at i past = rw (none_left chunks bytes i past) (nothing contents w)

-- the data of an entry, and that of those after it
pub then_data : {W : Type 0} (contents : W → Option (List ℕ)) (old mid new : Writing W)
    (chunks : ChunkMap) (bytes : List ℕ) (i slot : ℕ) (text : List ℕ) (ok : Bool)
    → i < entry_count_in bytes → slot ≡ entry_data (entry_in bytes i)
    → text ≡ block_bytes (bytes_named chunks slot) → Writes contents old mid text true
    → Writes contents mid new (data_text (drop (i + 1) (entries_of chunks bytes))) ok
    → Writes contents old new (data_text (drop i (entries_of chunks bytes))) ok
then_data contents old mid new chunks bytes i slot text ok below at is first rest =
    rw (data_from chunks bytes i below, ← at, ← is) (then contents old mid new text _ ok first rest)

pub stops_data : {W : Type 0} (contents : W → Option (List ℕ)) (old new : Writing W)
    (chunks : ChunkMap) (bytes : List ℕ) (i slot : ℕ) (text : List ℕ) → i < entry_count_in bytes
    → slot ≡ entry_data (entry_in bytes i) → text ≡ block_bytes (bytes_named chunks slot)
    → Writes contents old new text false
    → Writes contents old new (data_text (drop i (entries_of chunks bytes))) false
stops_data contents old new chunks bytes i slot text below at is first =
    rw (data_from chunks bytes i below, ← at, ← is) (stops contents old new text _ first)

pub no_data : {W : Type 0} (contents : W → Option (List ℕ)) (w : Writing W) (chunks : ChunkMap)
    (bytes : List ℕ) (i : ℕ) → entry_count_in bytes ≤ i
    → Writes contents w w (data_text (drop i (entries_of chunks bytes))) true
no_data contents w chunks bytes i past = rw (none_left chunks bytes i past) (nothing contents w)
