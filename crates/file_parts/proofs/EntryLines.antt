-- The lines of the entries, one after the other.
use Rattle.file_parts.proofs.AllWords.{◌≡◌, ℕ, ◌+◌, ◌/◌, ◌%◌, ◌<◌, ◌≤◌, Option, List, [], ◌∷◌, ◌++◌, length, get_or, drop, refl, ap, ◌∙◌, arith, add-one, drop-cons, append_assoc, drop_all, codes, decimal, Entry, a_record, a_resource, entry_data, entry_count_in, entry_with, bytes_at, Block, entry_read_at, entries_read, length-entries_read, entry_read_is, name_if_data, entry_name, named_entries, entry_lines, part_text, entry_values, entry_line, line_at, Blob}
use Rattle.std.specs.Prelude.{Some}

-- the lines from an index on
abbrev pub rest_lines : List ℕ → List ℕ → ℕ → List ℕ
rest_lines file ids index = entry_lines (named_entries index (drop index (entries_read file ids)))

entries_from : (es : List (Entry Blob)) (i : ℕ) (d : Entry Blob) → i < length es
    → drop i es ≡ get_or es i d ∷ drop (i + 1) es
entries_from es i d inside = rw (add-one, drop-cons es i d) refl

-- the line of an index, and those after it
pub line_here : (file ids : List ℕ) (index : ℕ) → index < entry_count_in file
    → rest_lines file ids index ≡ line_at file ids index ++ rest_lines file ids (index + 1)
line_here file ids index inside =
    let long = length-entries_read file ids in
    let e : Entry Blob = entry_read_at file ids index in
    let here = entries_from (entries_read file ids) index e (omega arith) ∙ ap (λ one. one
    ∷ drop (index + 1) (entries_read file ids)) (entry_read_is file ids index e inside) in
    ap (λ es. entry_lines (named_entries index es)) here

-- no line is left
pub none_left : (file ids : List ℕ) (index : ℕ) → entry_count_in file ≤ index
    → rest_lines file ids index ≡ []
none_left file ids index past =
    let long = length-entries_read file ids in
    cc (drop_all index (entries_read file ids) (omega arith))

-- ---- one line

five_joined : (a b c d e end : List ℕ)
    → a ++ (b ++ (c ++ (d ++ (e ++ end)))) ≡ (a ++ (b ++ (c ++ (d ++ e)))) ++ end
five_joined a b c d e end = simp append_assoc

-- the pieces of a part
pub part_joined : (index n : ℕ) (file : List ℕ) (found : Option Block) (block : Block) → n ≡ index
    → found ≡ Some block → codes " " ++ (decimal (n / 10000) ++ (decimal (n / 1000 % 10)
    ++ (decimal (n / 100 % 10) ++ (decimal (n / 10 % 10) ++ (decimal (n % 10) ++ codes "\n")))))
    ≡ part_text (name_if_data (entry_name index) (bytes_at file found))
part_joined index n file found block is is_found = rw (is, is_found)
    (ap (λ xs. codes " " ++ xs) (five_joined (decimal (index / 10000)) (decimal (index / 1000 % 10))
    (decimal (index / 100 % 10)) (decimal (index / 10 % 10)) (decimal (index % 10)) (codes "\n")))

values_with : (name : List ℕ) (e : Entry Blob) (f : Entry ℕ)
    → ((part : Blob) → entry_with (λ _. part) f ≡ entry_with (λ _. part) e)
    → entry_values (entry_with (λ _. name_if_data name (entry_data e)) f)
    ≡ entry_values (entry_with (name_if_data name) e)
values_with name (a_record a id block) f is = ap entry_values (is (name_if_data name block))
values_with name (a_resource kind id block) f is = ap entry_values (is (name_if_data name block))

data_with : (name : List ℕ) (e : Entry Blob)
    → entry_data (entry_with (name_if_data name) e) ≡ name_if_data name (entry_data e)
data_with name (a_record a id block) = refl
data_with name (a_resource kind id block) = refl

-- the two parts of the line of an entry
pub line_joined : (name : List ℕ) (e : Entry Blob) (f : Entry ℕ) (block : Blob)
    → ((part : Blob) → entry_with (λ _. part) f ≡ entry_with (λ _. part) e) → block ≡ entry_data e
    → entry_values (entry_with (λ _. name_if_data name (entry_data e)) f)
    ++ part_text (name_if_data name block) ≡ entry_line (entry_with (name_if_data name) e)
line_joined name e f block is is_block = cc (values_with name e f is, data_with name e)

parts_same : (whole : Entry Blob) (part : Blob)
    → entry_with {Data = ℕ} (λ _. part) (entry_with (λ _. 0) whole) ≡ entry_with (λ _. part) whole
parts_same (a_record a id block) part = refl
parts_same (a_resource kind id block) part = refl

-- an entry that is read, with any part
pub any_part : (entry : Entry ℕ) (whole : Entry Blob) → entry ≡ entry_with (λ _. 0) whole
    → (part : Blob) → entry_with (λ _. part) entry ≡ entry_with (λ _. part) whole
any_part entry whole is part = cc (parts_same whole part)
