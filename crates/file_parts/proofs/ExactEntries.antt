-- The lines of the entries of a file as they stand, one after the other.
use Rattle.file_parts.proofs.AllWords.{◌≡◌, ℕ, ◌+◌, ◌<◌, ◌≤◌, List, [], ◌∷◌, ◌++◌, length, get_or, drop, refl, ap, ◌∙◌, arith, add-one, drop-cons, drop_all, get_or-map-range_with_len, length-map-range_with_len, numbered, Entry, entry_count_in, entry_lines, named_entries, with_names, exact_database, exact_entry, exact_entry_line, Blob}

abbrev all_of : List ℕ → List (Entry Blob)
all_of file = numbered (exact_entry file) (entry_count_in file)

-- the lines from an index on
abbrev pub rest_lines : List ℕ → ℕ → List ℕ
rest_lines file index = entry_lines (named_entries index
    (drop index (numbered (exact_entry file) (entry_count_in file))))

pub all_lines : (file : List ℕ)
    → rest_lines file 0 ≡ entry_lines (with_names (exact_database file)).entries
unfolding exact_database
all_lines file = refl

entries_from : (es : List (Entry Blob)) (i : ℕ) (d : Entry Blob) → i < length es
    → drop i es ≡ get_or es i d ∷ drop (i + 1) es
entries_from es i d inside = rw (add-one, drop-cons es i d) refl

-- the line of an index, and those after it
pub line_here : (file : List ℕ) (index : ℕ) → index < entry_count_in file
    → rest_lines file index ≡ exact_entry_line file index ++ rest_lines file (index + 1)
line_here file index inside =
    let long = length-map-range_with_len (exact_entry file) 0 (entry_count_in file) in
    let e : Entry Blob = exact_entry file index in
    let here = entries_from (all_of file) index e (omega arith)
    ∙ ap (λ one. one ∷ drop (index + 1) (all_of file)) (get_or-map-range_with_len (exact_entry file)
    0 (entry_count_in file) index index e inside (omega arith)) in
    ap (λ es. entry_lines (named_entries index es)) here

-- no line is left
pub none_left : (file : List ℕ) (index : ℕ) → entry_count_in file ≤ index
    → rest_lines file index ≡ []
none_left file index past =
    let long = length-map-range_with_len (exact_entry file) 0 (entry_count_in file) in
    cc (drop_all index (all_of file) (omega arith))
