-- The entries of a listed database, and the lines that are left.
use Rattle.file_parts.proofs.AllWords.{◌≡◌, ℕ, ◌+◌, ◌<◌, Bool, true, false, Option, Some, None, List, [], ◌∷◌, ◌++◌, length, get_or, map, refl, ap, ◌∙◌, arith, All, Ok, All-head, All-tail, All-nil, All-cons, length-map, get_or-map, Entry, entry_data, entry_with, DbEntry, Record, Resource, entry_of, is_passed_over, ListedEntry, Left, left, entry_listed, entries_listed, next_of, one_more, unless_bad, read_entries}

part_listed : (listed : ListedEntry) → entry_data (entry_listed listed) ≡ listed.part
part_listed listed = by_kind listed.entry where
  by_kind : (entry : DbEntry)
      → entry_data (entry_with (λ _. listed.part) (entry_of entry)) ≡ listed.part
  by_kind (Record entry) = refl
  by_kind (Resource entry) = refl

-- the part of an entry
pub data_listed : (items : List ListedEntry) (k : ℕ) (d : ListedEntry) → k < length items
    → get_or (map entry_data (entries_listed items)) k None ≡ (get_or items k d).part
data_listed items k d inside =
    let long = length-map items entry_listed in
    get_or-map entry_data (entries_listed items) k (entry_listed d) None (omega arith)
    ∙ ap (entry_data {Data = Option (List ℕ)})
    (get_or-map entry_listed items k d (entry_listed d) inside) ∙ part_listed (get_or items k d)

same_next : (text line : List ℕ) (here rest : Left)
    → ◌≡◌ {A = Option (List ℕ × Left)} (Some (text, here)) (Some (line, rest))
    → (text ≡ line) × (here ≡ rest)
same_next text line here rest e =
    let first : text ≡ line = ap first_of e in
    let second : here ≡ rest = ap second_of e in
    (first, second) where
      first_of : Option (List ℕ × Left) → List ℕ
      first_of None = text
      first_of (Some both) = both.0

      second_of : Option (List ℕ × Left) → Left
      second_of None = here
      second_of (Some both) = both.1

-- the next line is that of an entry, or there is none
pub entries_on : (r : Bool) (front : List (Entry (Option (List ℕ)))) (number : ℕ)
    (texts : List (List ℕ)) (line : List ℕ) (rest : Left) → next_of number texts ≡ Some (line, rest)
    → read_entries r front number texts ≡ unless_bad rest.number (one_more r front line) (λ entry.
    read_entries r (front ++ entry ∷ []) rest.number rest.texts)
entries_on r front number [] line rest next = absurd cc
entries_on r front number (text ∷ texts) line rest next =
    by_passed (is_passed_over text) refl (entries_on r front (number + 1) texts line rest) where
      by_passed : (v : Bool) → is_passed_over text ≡ v
          → (next_of (number + 1) texts ≡ Some (line, rest)
          → read_entries r front (number + 1) texts ≡ unless_bad rest.number (one_more r front line)
          (λ entry. read_entries r (front ++ entry ∷ []) rest.number rest.texts))
          → read_entries r front number (text ∷ texts) ≡ unless_bad rest.number (one_more r front
          line) (λ entry. read_entries r (front ++ entry ∷ []) rest.number rest.texts)
      by_passed true is more = rw is (more (rw is at next))
      by_passed false is more =
          let parts = same_next text line (left (number + 1) texts) rest (rw is at next) in
          rw (is, ← parts.0, ← parts.1) refl

pub entries_end : (r : Bool) (front : List (Entry (Option (List ℕ)))) (number : ℕ)
    (texts : List (List ℕ)) → next_of number texts ≡ None
    → read_entries r front number texts ≡ Ok front
entries_end r front number [] none = refl
entries_end r front number (text ∷ texts) none =
    by_passed (is_passed_over text) refl (entries_end r front (number + 1) texts) where
      by_passed : (v : Bool) → is_passed_over text ≡ v
          → (next_of (number + 1) texts ≡ None → read_entries r front (number + 1) texts ≡ Ok front)
          → read_entries r front number (text ∷ texts) ≡ Ok front
      by_passed true is more = rw is (more (rw is at none))
      by_passed false is more = absurd (some_is (rw is at none)) where
        some_is : {X : Type 0} {x : X} → Some x ≡ None → ⊥
        some_is e = cc

-- fewer lines are left then
pub next_shorter : (number : ℕ) (texts : List (List ℕ)) (line : List ℕ) (rest : Left)
    → next_of number texts ≡ Some (line, rest) → length rest.texts < length texts
next_shorter number [] line rest next = absurd cc
next_shorter number (text ∷ texts) line rest next =
    by_passed (is_passed_over text) refl (next_shorter (number + 1) texts line rest) where
      by_passed : (v : Bool) → is_passed_over text ≡ v
          → (next_of (number + 1) texts ≡ Some (line, rest) → length rest.texts < length texts)
          → length rest.texts < length (text ∷ texts)
      by_passed true is more = let less = more (rw is at next) in omega arith
      by_passed false is more =
          let parts = same_next text line (left (number + 1) texts) rest (rw is at next) in
          let long : length texts ≡ length rest.texts = ap (λ (l : Left). length l.texts) parts.1 in
          omega arith

-- the entries with one more
pub listed_more : (items : List ListedEntry) (item : ListedEntry)
    → entries_listed (items ++ item ∷ []) ≡ entries_listed items ++ entry_listed item ∷ []
listed_more [] item = refl
listed_more (one ∷ items) item = ap (λ es. entry_listed one ∷ es) (listed_more items item)

pub all_more : {A : Type 0} (P : A → Type 0) (xs : List A) (x : A) → All P xs → P x
    → All P (xs ++ x ∷ [])
all_more P [] x all one = All-cons P x [] one (All-nil P)
all_more P (y ∷ xs) x all one =
    All-cons P y (xs ++ x ∷ []) (All-head P y xs all) (all_more P xs x (All-tail P y xs all) one)
