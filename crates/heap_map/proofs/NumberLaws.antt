-- The numbers of databases in a table.
use Rattle.heap_map.proofs.Words.{◌≡◌, ◌≢◌, ℕ, suc, ◌+◌, ◌<◌, ◌≤◌, Bool, true, false, cond, List, [], ◌∷◌, ◌++◌, length, get_or, set, refl, sym, ap, ◌∙◌, arith, inl, inr, ◌||◌, slice_index, cases_eq, nat_tests, get_or-set_same, get_or-set_other, data_in, database_in, Accepted, listed, marked_word, header_at, listed_at, listed_count, length-numbered, has_slot, last_naming_below, database_number, HasNumbers, NotesSlots}
use Rattle.std.proofs.lemmas.List.Folds.{list_any-append}

-- ---- one slot

one_yes : (slot q number other : ℕ) → slot ≡ q → cond (has_slot (slot ∷ []) q) number other ≡ number
one_yes slot q number other e = grind (arith, nat_tests)

one_no : (slot q number other : ℕ) → slot ≢ q → cond (has_slot (slot ∷ []) q) number other ≡ other
one_no slot q number other ne = grind (arith, nat_tests)

pub notes_set : (table new : List ℕ) (slot number word : ℕ) → marked_word word ≡ slot
    → word < length table → new ≡ set table word number → NotesSlots (slot ∷ []) number table new
notes_set table new slot number word is inside e k below = elim (cases_eq k word) [
  | inl same ↦
      let there : slot ≡ marked_word k = omega arith in
      ap (λ i. get_or new i 0) same ∙ ap (λ l. get_or l word 0) e
      ∙ get_or-set_same table word number 0 inside ∙ sym (one_yes _ _ _ (slice_index table k) there)
  | inr ne ↦
      let apart : slot ≢ marked_word k = λ same. ne (omega arith) in
      ap (λ l. get_or l k 0) e ∙ get_or-set_other table word k number 0 ne
      ∙ sym (one_no _ _ number _ apart)
]

pub notes_apart : (table : List ℕ) (slot number : ℕ)
    → ((k : ℕ) → k < length table → marked_word k ≡ slot → ⊥)
    → NotesSlots (slot ∷ []) number table table
notes_apart table slot number none k below =
    sym (one_no slot (marked_word k) number _ (λ e. none k below (sym e)))

-- ---- several

either : (x y : Bool) (number other : ℕ)
    → cond y number (cond x number other) ≡ cond (x || y) number other
either true true number other = refl
either true false number other = refl
either false true number other = refl
either false false number other = refl

pub notes_then : (xs ys : List ℕ) (number : ℕ) (a b c : List ℕ) → length b ≡ length a
    → NotesSlots xs number a b → NotesSlots ys number b c → NotesSlots (xs ++ ys) number a c
notes_then xs ys number a b c len first rest k below =
    let q : ℕ = marked_word k in
    let inside : k < length b = omega arith in
    rest k inside
    ∙ ap (λ (n : ℕ). cond (has_slot ys q) number n) (first k below)
    ∙ either (has_slot xs q) (has_slot ys q) number (slice_index a k)
    ∙ ap (λ (t : Bool). cond t number (slice_index a k)) (sym (list_any-append _ xs ys))

-- ---- databases

pub few_listed : (image : List ℕ) → Accepted image → listed_count image ≤ 1024
unfolding listed
few_listed image a = let few = a.few in
    let count = length-numbered (listed_at image) (listed_count image) in omega arith

pub number_more : (image header table new : List ℕ) (db number : ℕ) → header ≡ header_at image db
    → number ≡ db + 1 → length new ≡ length table → HasNumbers (last_naming_below image db) table
    → NotesSlots (data_in (database_in header)) number table new
    → HasNumbers (last_naming_below image (db + 1)) new
number_more image header table new db number is is_number len before notes k below =
    let q : ℕ = marked_word k in
    let inside : k < length table = omega arith in
    let last : number ≡ suc db = omega arith in
    let more : suc db ≡ db + 1 = omega arith in
    notes k inside
    ∙ ap (λ b. cond (has_slot (data_in (database_in b)) q) number (slice_index table k)) is
    ∙ ap (λ n. cond (has_slot (data_in (database_in (header_at image db))) q) n
    (slice_index table k)) last
    ∙ ap (λ n. cond (has_slot (data_in (database_in (header_at image db))) q) (suc db) n)
    (before k inside) ∙ ap (λ (n : ℕ). last_naming_below image n q) more

pub numbers_all : (image table : List ℕ) (count : ℕ) → count ≡ listed_count image
    → HasNumbers (last_naming_below image count) table → HasNumbers (database_number image) table
unfolding database_number
numbers_all image table count e h k below =
    h k below ∙ ap (λ n. last_naming_below image n (marked_word k)) e
