-- The entries of a packed database, one after the other.
use Rattle.file_parts.proofs.AllWords.{◌≡◌, ℕ, zero, suc, ◌+◌, ◌<◌, ◌≤◌, Bool, true, false, Option, Some, None, List, [], ◌∷◌, ◌++◌, length, get_or, drop, map, refl, sym, ap, ◌∙◌, arith, add-one, drop-cons, append_assoc, length-append, length-map, get_or-map, drop_all, has_resources, Entry, a_record, a_resource, entry_data, entry_with, entry_bytes, HasNoFault, file_of, idle_attributes, idle_entry, block_bytes, block_size, block_offset, Record, Resource, DbEntry, All, All-head, All-tail, All-nil, All-cons, IsWritableEntry, file_size, HasFile, file_good, length-of_file, most_bytes, entry_of, HasFittingId, entries_text, data_text, ListedEntry, Listed, IsGoodEntry, IsListed, entry_listed, entries_listed, filled, part_at, filled_entries, packed_entries, database_of_parts}

pub length-filled : (parts : List (List ℕ)) (rank : ℕ) (es : List (Entry (Option (List ℕ))))
    → length (filled_entries parts rank es) ≡ length es
length-filled parts rank [] = refl
length-filled parts rank (e ∷ es) = let ih = length-filled parts (rank + 1) es in omega arith

-- the entry of an index
pub filled_at : (parts : List (List ℕ)) (rank k : ℕ) (es : List (Entry (Option (List ℕ))))
    (d e : Entry (Option (List ℕ))) → k < length es → get_or (filled_entries parts rank es) k e
    ≡ entry_with (filled (part_at parts (rank + k))) (get_or es k d)
filled_at parts rank k [] d e inside = absurd (omega arith)
filled_at parts rank zero (x ∷ es) d e inside =
    let same : rank ≡ rank + 0 = omega arith in
    ap (λ (r : ℕ). entry_with (filled (part_at parts r)) x) same
filled_at parts rank (suc k) (x ∷ es) d e inside =
    let next : rank + 1 + k ≡ rank + suc k = omega arith in
    filled_at parts (rank + 1) k es d e (omega arith)
    ∙ ap (λ r. entry_with (filled (part_at parts r)) (get_or es k d)) next

pub length-packed : (items : List ListedEntry) (parts : List (List ℕ))
    → length (packed_entries items parts) ≡ length items
length-packed items parts =
    length-filled parts 2 (entries_listed items) ∙ length-map items entry_listed

abbrev pub packed_at : List ListedEntry → List (List ℕ) → ℕ → ListedEntry → Entry (Option (List ℕ))
packed_at items parts i d =
    entry_with (filled (part_at parts (2 + i))) (entry_listed (get_or items i d))

entries_from : (es : List (Entry (Option (List ℕ)))) (i : ℕ) (d : Entry (Option (List ℕ)))
    → i < length es → drop i es ≡ get_or es i d ∷ drop (i + 1) es
entries_from es i d inside = rw (add-one, drop-cons es i d) refl

packed_here : (items : List ListedEntry) (parts : List (List ℕ)) (i : ℕ) (d : ListedEntry)
    → i < length items → drop i (packed_entries items parts)
    ≡ packed_at items parts i d ∷ drop (i + 1) (packed_entries items parts)
packed_here items parts i d inside =
    let es : List (Entry (Option (List ℕ))) = packed_entries items parts in
    let long = length-packed items parts in
    let many = length-map items entry_listed in
    let e : Entry (Option (List ℕ)) = entry_listed d in
    entries_from es i e (omega arith)
    ∙ ap (λ (one : Entry (Option (List ℕ))). one ∷ drop (i + 1) es) (filled_at parts 2 i
    (entries_listed items) e e (omega arith) ∙ ap (entry_with (filled (part_at parts (2 + i))))
    (get_or-map entry_listed items i d e (omega arith)))

-- its data
pub data_of : (listed : ListedEntry) (bytes : List ℕ)
    → entry_data (entry_with (filled bytes) (entry_listed listed)) ≡ filled bytes listed.part
data_of listed bytes = by_kind listed.entry where
  by_kind : (entry : DbEntry) → entry_data (entry_with (filled bytes)
      (entry_with (λ _. listed.part) (entry_of entry))) ≡ filled bytes listed.part
  by_kind (Record entry) = refl
  by_kind (Resource entry) = refl

one_text : (at : ℕ) (e : Entry (Option (List ℕ))) (es : List (Entry (Option (List ℕ))))
    → entries_text at (e ∷ es) ≡ entry_bytes (entry_with (block_offset at)
    (idle_entry e)) ++ entries_text (at + block_size (entry_data e)) es
one_text at (a_record attributes id block) es = refl
one_text at (a_resource kind id block) es = refl

one_data : (e : Entry (Option (List ℕ))) (es : List (Entry (Option (List ℕ))))
    → data_text (e ∷ es) ≡ block_bytes (entry_data e) ++ data_text es
one_data (a_record attributes id block) es = refl
one_data (a_resource kind id block) es = refl

-- the text of an entry, by the size of its data, and those after it
pub text_here : (items : List ListedEntry) (parts : List (List ℕ)) (i at : ℕ) (d : ListedEntry)
    (bytes block : List ℕ) → i < length items
    → bytes ≡ entry_bytes (entry_with (block_offset at) (idle_entry (packed_at items parts i d)))
    → block ≡ block_bytes (filled (part_at parts (2 + i)) (get_or items i d).part)
    → entries_text at (drop i (packed_entries items parts))
    ≡ bytes ++ entries_text (at + length block) (drop (i + 1) (packed_entries items parts))
text_here items parts i at d bytes block inside is is_block =
    let e : Entry (Option (List ℕ)) = packed_at items parts i d in
    let rest : List (Entry (Option (List ℕ))) = drop (i + 1) (packed_entries items parts) in
    let size : block_size (entry_data e) ≡ length block =
    ap block_size (data_of (get_or items i d) (part_at parts (2 + i))) ∙ ap length (sym is_block) in
    ap (entries_text at) (packed_here items parts i d inside)
    ∙ one_text at e rest
    ∙ ap (λ (xs : List ℕ). xs ++ entries_text (at + block_size (entry_data e)) rest) (sym is)
    ∙ ap (λ (n : ℕ). bytes ++ entries_text (at + n) rest) size

-- the size of its data, and those after it
pub data_here : (items : List ListedEntry) (parts : List (List ℕ)) (i : ℕ) (d : ListedEntry)
    (block : List ℕ) → i < length items
    → block ≡ block_bytes (filled (part_at parts (2 + i)) (get_or items i d).part)
    → length (data_text (drop i (packed_entries items parts)))
    ≡ length block + length (data_text (drop (i + 1) (packed_entries items parts)))
data_here items parts i d block inside is_block =
    let e : Entry (Option (List ℕ)) = packed_at items parts i d in
    let rest : List (Entry (Option (List ℕ))) = drop (i + 1) (packed_entries items parts) in
    let size : block_size (entry_data e) ≡ length block =
    ap block_size (data_of (get_or items i d) (part_at parts (2 + i))) ∙ ap length (sym is_block) in
    ap (λ xs. length (data_text xs)) (packed_here items parts i d inside)
    ∙ ap length (one_data e rest) ∙ length-append (block_bytes (entry_data e)) (data_text rest)
    ∙ ap (λ (n : ℕ). n + length (data_text rest)) size

-- no entry is left
pub none_left : (items : List ListedEntry) (parts : List (List ℕ)) (i : ℕ) → length items ≤ i
    → drop i (packed_entries items parts) ≡ []
none_left items parts i past =
    let long = length-packed items parts in
    drop_all i (packed_entries items parts) (omega arith)

-- ---- ids

fits : (r : Bool) (listed : ListedEntry) → IsGoodEntry r listed → HasFittingId listed.entry
fits r listed is = by_kind r listed.entry is where
  by_kind : (r : Bool) (entry : DbEntry)
      → IsWritableEntry r (entry_with (λ _. listed.part) (entry_of entry)) → HasFittingId entry
  by_kind false (Record entry) is = let id = is.1 in omega arith
  by_kind true (Record entry) is = absurd is
  by_kind r (Resource entry) is = tt

pub all_fit : (r : Bool) (items : List ListedEntry) → All (IsGoodEntry r) items
    → All (λ listed. HasFittingId listed.entry) items
all_fit r items good = λ k d inside. fits r (get_or items k d) (good k d inside)

-- ---- writable entries

still_writable : (r : Bool) (bytes : List ℕ) (e : Entry (Option (List ℕ))) → IsWritableEntry r e
    → IsWritableEntry r (entry_with (filled bytes) e)
still_writable false bytes (a_record attributes id None) is = is
still_writable false bytes (a_record attributes id (Some name)) is = (is.0, is.1, λ none. absurd cc)
still_writable true bytes (a_record attributes id part) is = absurd is
still_writable false bytes (a_resource kind id part) is = absurd is
still_writable true bytes (a_resource kind id None) is = absurd (is.2 refl)
still_writable true bytes (a_resource kind id (Some name)) is = (is.0, is.1, λ none. absurd cc)

pub all_writable : (r : Bool) (parts : List (List ℕ)) (rank : ℕ)
    (es : List (Entry (Option (List ℕ)))) → All (IsWritableEntry r) es
    → All (IsWritableEntry r) (filled_entries parts rank es)
all_writable r parts rank [] all = All-nil (IsWritableEntry r)
all_writable r parts rank (e ∷ es) all = All-cons (IsWritableEntry r)
    (entry_with (filled (part_at parts rank)) e) (filled_entries parts (rank + 1) es)
    (still_writable r (part_at parts rank) e (All-head (IsWritableEntry r) e es all))
    (all_writable r parts (rank + 1) es (All-tail (IsWritableEntry r) e es all))

-- ---- the blocks

data_filled : (bytes : List ℕ) (e : Entry (Option (List ℕ)))
    → entry_data (entry_with (filled bytes) e) ≡ filled bytes (entry_data e)
data_filled bytes (a_record attributes id part) = refl
data_filled bytes (a_resource kind id part) = refl

pub block_filled : (parts : List (List ℕ)) (rank k : ℕ) (es : List (Entry (Option (List ℕ))))
    → k < length es → get_or (map entry_data (filled_entries parts rank es)) k None
    ≡ filled (part_at parts (rank + k)) (get_or (map entry_data es) k None)
block_filled parts rank k [] inside = absurd (omega arith)
block_filled parts rank zero (e ∷ es) inside =
    let same : rank ≡ rank + 0 = omega arith in
    data_filled (part_at parts rank) e ∙ ap (λ r. filled (part_at parts r) (entry_data e)) same
block_filled parts rank (suc k) (e ∷ es) inside =
    let next : rank + 1 + k ≡ rank + suc k = omega arith in
    block_filled parts (rank + 1) k es (omega arith)
    ∙ ap (λ (r : ℕ). filled (part_at parts r) (get_or (map entry_data es) k None)) next

-- ---- all of it

pub listed_writable : (r : Bool) (items : List ListedEntry) → All (IsGoodEntry r) items
    → All (IsWritableEntry r) (entries_listed items)
listed_writable r [] all = All-nil (IsWritableEntry r)
listed_writable r (e ∷ items) all = All-cons (IsWritableEntry r) (entry_listed e)
    (entries_listed items) (All-head (IsGoodEntry r) e items all)
    (listed_writable r items (All-tail (IsGoodEntry r) e items all))

-- a packed database has a file
module _ (listed : Listed) (parts : List (List ℕ)) (is : IsListed listed)
    (size : file_size (database_of_parts listed parts) ≤ most_bytes) where
  pub packed_has_file : HasFile (database_of_parts listed parts)
  packed_has_file =
      let long = length-packed listed.entries.items parts in
      let few = is.few in
      record {
        name = is.name;
        header = is.header;
        entries = all_writable (has_resources listed.header.attributes) parts 2
            (entries_listed listed.entries.items)
            (listed_writable (has_resources listed.header.attributes) listed.entries.items is.good);
        entry_count = omega arith;
        size = omega arith;
      }

  -- it has no fault
  pub packed_good : HasNoFault (file_of (database_of_parts listed parts))
  packed_good = file_good (database_of_parts listed parts) packed_has_file

  pub packed_long : length (file_of (database_of_parts listed parts)) ≤ most_bytes
  packed_long =
      let same = length-of_file (database_of_parts listed parts) packed_has_file in
      omega arith

-- parts one after the other
pub joined : (b0 b1 b2 b3 h e z k : List ℕ) → b0 ≡ [] → b1 ≡ b0 ++ h → b2 ≡ b1 ++ e → b3 ≡ b2 ++ z
    → b3 ++ k ≡ h ++ (e ++ (z ++ k))
joined b0 b1 b2 b3 h e z k none first second third =
    ap (λ xs. xs ++ k) (third ∙ ap (λ (xs : List ℕ). xs ++ z)
    (second ∙ ap (λ (xs : List ℕ). xs ++ e) (first ∙ ap (λ (xs : List ℕ). xs ++ h) none)))
    ∙ append_assoc (h ++ e) z k ∙ append_assoc h e (z ++ k)

-- an entry as it is placed in the file
pub entry_placed : (bytes : List ℕ) (at offset : ℕ) (part : Option (List ℕ)) (entry : Entry ℕ)
    → offset ≡ block_offset at (filled bytes part)
    → entry_with (λ _. offset) (idle_entry entry) ≡ entry_with (block_offset at)
    (idle_entry (entry_with (filled bytes) (entry_with (λ _. part) entry)))
entry_placed bytes at offset part (a_record attributes id slot) is =
    ap (a_record (idle_attributes attributes) id) is
entry_placed bytes at offset part (a_resource kind id slot) is = ap (a_resource kind id) is
