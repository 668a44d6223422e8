-- The text and the parts of a database give it back.
use Rattle.file_parts.proofs.AllWords.{◌≡◌, ℕ, zero, suc, ◌+◌, ◌/◌, ◌%◌, ◌^◌, ◌<◌, ◌≤◌, Bool, true, false, Option, Some, None, List, [], ◌∷◌, ◌++◌, length, map, take, refl, sym, ap, ◌∙◌, arith, append_assoc, append-nil, length-append, All, Ok, ◌==◌, AllZip, get_or-append_seam, decimal_digit, All-head, All-tail, All-nil, All-cons, AreBytes, Database, DatabaseHeader, Entry, a_record, a_resource, entry_data, entry_with, data_in, has_resources, name_in, IsDatabaseName, HeaderFits, block_bytes, IsWritableEntry, HasFile, app_name, sort_name, entry_name, name_if_data, named_entries, with_names, database_text, begins_name, is_name_byte, spelled_part, read_database, filled, part_at, filled_entries, with_parts, IsPartName, IsNamedEntry, HasText}
use Rattle.file_parts.proofs.Names.{name_good}
use Rattle.file_parts.proofs.TextLaws.{texts_are_read}

-- ---- the parts

filled_named : (name : List ℕ) (block : Option (List ℕ))
    → filled (block_bytes block) (name_if_data name block) ≡ block
filled_named name None = refl
filled_named name (Some bytes) = refl

filled_entry : (name : List ℕ) (e : Entry (Option (List ℕ)))
    → entry_with (filled (block_bytes (entry_data e))) (entry_with (name_if_data name) e) ≡ e
filled_entry name (a_record attributes id block) =
    ap (a_record attributes id) (filled_named name block)
filled_entry name (a_resource kind id block) = ap (a_resource kind id) (filled_named name block)

all_blocks : List (Entry (Option (List ℕ))) → List (List ℕ)
all_blocks es = map block_bytes (map entry_data es)

-- with this data in place of its name, an entry is this one
abbrev pub IsFilledTo : Entry (Option (List ℕ)) → Entry (Option (List ℕ)) → Type 0
IsFilledTo named e = entry_with (filled (block_bytes (entry_data e))) named ≡ e

entries_filled : (front more : List (List ℕ)) (rank : ℕ) (named es : List (Entry (Option (List ℕ))))
    → AllZip IsFilledTo named es → length front ≡ rank
    → filled_entries (front ++ (all_blocks es ++ more)) rank named ≡ es
unfolding all_blocks
entries_filled front more rank [] [] all long = refl
entries_filled front more rank [] (e ∷ es) all long = absurd all
entries_filled front more rank (n ∷ named) [] all long = absurd all
entries_filled front more rank (n ∷ named) (e ∷ es) all long =
    let block : List ℕ = block_bytes (entry_data e) in
    let rest : List (List ℕ) = all_blocks es ++ more in
    let longer = length-append front (block ∷ []) in
    let here : part_at (front ++ block ∷ rest) rank ≡ block =
    ap (part_at (front ++ block ∷ rest)) (sym long) ∙ get_or-append_seam front block rest [] in
    let joined : front ++ block ∷ rest ≡ (front ++ block ∷ []) ++ rest =
    sym (append_assoc front (block ∷ []) rest) in
    ap (λ (bytes : List ℕ). entry_with (filled bytes) n ∷ filled_entries (front ++ block ∷ rest)
    (rank + 1) named) here ∙ ap (λ (one : Entry (Option (List ℕ))). one
    ∷ filled_entries (front ++ block ∷ rest) (rank + 1) named) all.0
    ∙ ap (λ (parts : List (List ℕ)). e ∷ filled_entries parts (rank + 1) named) joined
    ∙ ap (λ (xs : List (Entry (Option (List ℕ)))). e ∷ xs)
    (entries_filled (front ++ block ∷ []) more (rank + 1) named es all.1 (omega arith))

-- these are names in place of the data of a database
pub record AreNamesOf (d named : Database (Option (List ℕ))) : Type 0 where
  pub header : named.header ≡ d.header
  pub app : filled (block_bytes d.app_info) named.app_info ≡ d.app_info
  pub sort : filled (block_bytes d.sort_info) named.sort_info ≡ d.sort_info
  pub entries : AllZip IsFilledTo named.entries d.entries

whole : DatabaseHeader → Option (List ℕ) → Option (List ℕ) → List (Entry (Option (List ℕ)))
    → Database (Option (List ℕ))
whole header app sort entries =
    record { header = header; app_info = app; sort_info = sort; entries = entries }

-- with its parts, and others after them
pub filled_back : (d named : Database (Option (List ℕ))) (more : List (List ℕ)) → AreNamesOf d named
    → with_parts (map block_bytes (data_in d) ++ more) named ≡ d
unfolding all_blocks whole
filled_back d named more are =
    let app : Option (List ℕ) = filled (block_bytes d.app_info) named.app_info in
    let sort : Option (List ℕ) = filled (block_bytes d.sort_info) named.sort_info in
    let entries : List (Entry (Option (List ℕ))) =
    filled_entries (map block_bytes (data_in d) ++ more) 2 named.entries in
    ap (λ (h : DatabaseHeader). whole h app sort entries) are.header ∙ ap (whole d.header app sort)
    (entries_filled (block_bytes d.app_info ∷ block_bytes d.sort_info ∷ []) more 2 named.entries
    d.entries are.entries refl)
    ∙ ap (λ (block : Option (List ℕ)). whole d.header block sort d.entries) are.app
    ∙ ap (λ (block : Option (List ℕ)). whole d.header d.app_info block d.entries) are.sort

all_filled : (index : ℕ) (es : List (Entry (Option (List ℕ))))
    → AllZip IsFilledTo (named_entries index es) es
all_filled index [] = tt
all_filled index (e ∷ es) = (filled_entry (entry_name index) e, all_filled (index + 1) es)

pub parts_and_more : (d : Database (Option (List ℕ))) (more : List (List ℕ))
    → with_parts (map block_bytes (data_in d) ++ more) (with_names d) ≡ d
parts_and_more d more = filled_back d (with_names d) more (record {
  header = refl;
  app = filled_named app_name d.app_info;
  sort = filled_named sort_name d.sort_info;
  entries = all_filled 0 d.entries;
})

pub parts_back : (d : Database (Option (List ℕ)))
    → with_parts (map block_bytes (data_in d)) (with_names d) ≡ d
parts_back d = ap (λ parts. with_parts parts (with_names d))
    (sym (append-nil (map block_bytes (data_in d)))) ∙ parts_and_more d []

-- ---- the names

five : (a b c d e : ℕ) → List ℕ
five a b c d e = (48 + a) ∷ (48 + b) ∷ (48 + c) ∷ (48 + d) ∷ (48 + e) ∷ []

begins : (d : ℕ) → d < 10 → begins_name (48 + d) ≡ true
begins d small = grind arith

goes_on : (d : ℕ) → d < 10 → is_name_byte (48 + d) ≡ true
goes_on d small = grind arith

not_d : (d : ℕ) → d < 10 → (48 + d == 100) ≡ false
not_d d small = grind arith

not_n : (d : ℕ) → d < 10 → (48 + d == 110) ≡ false
not_n d small = grind arith

five_named : (a b c d e : ℕ) → a < 10 → b < 10 → c < 10 → d < 10 → e < 10
    → spelled_part (five a b c d e) ≡ Some (Some (five a b c d e))
unfolding five
five_named a b c d e first second third fourth fifth = rw (
  not_n a first,
  not_d a first,
  begins a first,
  goes_on b second,
  goes_on c third,
  goes_on d fourth,
  goes_on e fifth,
) refl

entry_five : (index : ℕ) → index < 100000 → entry_name index
    ≡ five (index / 10000) (index / 1000 % 10) (index / 100 % 10) (index / 10 % 10) (index % 10)
unfolding five
entry_five index small = rw (
  decimal_digit (index / 10000) (omega arith),
  decimal_digit (index / 1000 % 10) (omega arith),
  decimal_digit (index / 100 % 10) (omega arith),
  decimal_digit (index / 10 % 10) (omega arith),
  decimal_digit (index % 10) (omega arith),
) refl

entry_named : (index : ℕ) → index < 100000
    → spelled_part (entry_name index) ≡ Some (Some (entry_name index))
entry_named index small = rw (entry_five index small)
    (five_named (index / 10000) (index / 1000 % 10) (index / 100 % 10) (index / 10 % 10)
    (index % 10) (omega arith) (omega arith) (omega arith) (omega arith) (omega arith))

named_part : (name : List ℕ) (block : Option (List ℕ)) → spelled_part name ≡ Some (Some name)
    → IsPartName (name_if_data name block)
named_part name None is = tt
named_part name (Some bytes) is = is

named_none : (name : List ℕ) (block : Option (List ℕ)) → name_if_data name block ≡ None
    → block ≡ None
named_none name None e = refl
named_none name (Some bytes) e = absurd cc

one_named : (r : Bool) (index : ℕ) (e : Entry (Option (List ℕ))) → index < 100000
    → IsWritableEntry r e → IsNamedEntry r (entry_with (name_if_data (entry_name index)) e)
one_named false index (a_record attributes id block) small is = (
  is.0,
  is.1,
  named_part (entry_name index) block (entry_named index small),
  λ none. is.2 (named_none (entry_name index) block none),
)
one_named true index (a_record attributes id block) small is = absurd is
one_named false index (a_resource kind id block) small is = absurd is
one_named true index (a_resource kind id block) small is = (
  is.0,
  is.1,
  named_part (entry_name index) block (entry_named index small),
  λ none. is.2 (named_none (entry_name index) block none),
)

all_named : (r : Bool) (index : ℕ) (es : List (Entry (Option (List ℕ))))
    → index + length es ≤ 100000 → All (IsWritableEntry r) es
    → All (IsNamedEntry r) (named_entries index es)
all_named r index [] small all = All-nil (IsNamedEntry r)
all_named r index (e ∷ es) small all = All-cons (IsNamedEntry r)
    (entry_with (name_if_data (entry_name index)) e) (named_entries (index + 1) es)
    (one_named r index e (omega arith) (All-head (IsWritableEntry r) e es all))
    (all_named r (index + 1) es (omega arith) (All-tail (IsWritableEntry r) e es all))

length-named : (index : ℕ) (es : List (Entry (Option (List ℕ))))
    → length (named_entries index es) ≡ length es
length-named index [] = refl
length-named index (e ∷ es) = let ih = length-named (index + 1) es in omega arith

-- ---- the text

pub front_bytes : (n : ℕ) (xs : List ℕ) → AreBytes xs → AreBytes (take n xs)
front_bytes zero xs are k = omega arith
front_bytes (suc n) [] are k = omega arith
front_bytes (suc n) (x ∷ xs) are zero = are 0
front_bytes (suc n) (x ∷ xs) are (suc k) = front_bytes n xs (λ i. are (suc i)) k

pub name_bytes : (file : List ℕ) → AreBytes file → AreBytes (name_in file)
unfolding name_in
name_bytes file are = front_bytes _ (take 31 file) (front_bytes 31 file are)

pub has_text_of : (d : Database (Option (List ℕ))) → IsDatabaseName d.header.name
    → HeaderFits d.header → All (IsWritableEntry (has_resources d.header.attributes)) d.entries
    → length d.entries < 2 ^ 16 → AreBytes d.header.name → HasText (with_names d)
has_text_of d name header entries few bytes =
    let long = length-named 0 d.entries in
    record {
      name = name_good d.header.name name;
      bytes = bytes;
      header = header;
      app_info = named_part app_name d.app_info refl;
      sort_info = named_part sort_name d.sort_info refl;
      entries = all_named (has_resources d.header.attributes) 0 d.entries (omega arith) entries;
      few = omega arith;
    }

has_text : (d : Database (Option (List ℕ))) → HasFile d → AreBytes d.header.name
    → HasText (with_names d)
has_text d is bytes = has_text_of d is.name is.header is.entries is.entry_count bytes

pub text_back : (d : Database (Option (List ℕ))) → HasFile d → AreBytes d.header.name
    → read_database (database_text (with_names d)) ≡ Ok (with_names d)
text_back d is bytes = texts_are_read (with_names d) (has_text d is bytes)
