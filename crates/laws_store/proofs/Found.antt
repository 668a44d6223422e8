-- Databases by their numbers: found, changed and taken out.
use Rattle.laws_store.proofs.Words.{◌≡◌, ◌≢◌, ℕ, zero, suc, ◌+◌, ◌<◌, ◌≤◌, true, Option, Some, None, List, [], ◌∷◌, length, get_or, set, refl, sym, ap, ◌∙◌, arith, inl, inr, cases_eq, eq-eqb, ne_eqb, slice_get_within, get_or_from_slice_get, ◌⊎◌, ◌↔◌, ◌==◌, not, is_some, slice_get, find, remove, directory_of, same, times, Distinct, Database, StoredDatabase, owner_under, IsHeaderSlot, numbers_of, changed_if, with_changed, without_database, HasDatabases, cond-true, cond-false, same_some, none_some}
use Rattle.laws_store.proofs.Times.{same-yes, same-no, times-cons, times-some, all-times, distinct-times}
use Rattle.laws_store.proofs.Owners.{owned_some}
use Rattle.laws_store.proofs.Counts.{length-numbers, header_slots}
use Rattle.laws_store.proofs.RewrittenDatabases.{number_at}

-- ---- whether there is one

abbrev found : ℕ → List StoredDatabase → Option StoredDatabase
found db stored = find (λ (one : StoredDatabase). one.db == db) stored

abbrev onto : StoredDatabase → List StoredDatabase → List StoredDatabase
onto x xs = x ∷ xs

-- the first database, and the others, by how often they have a number
first_counts : (db : ℕ) (x : StoredDatabase) (xs : List StoredDatabase)
    → times db (numbers_of (x ∷ xs)) ≡ same x.db db + times db (numbers_of xs)
first_counts db x xs = times-cons db x.db (numbers_of xs)

pub found_or_not : (db : ℕ) (stored : List StoredDatabase)
    → ((0 < times db (numbers_of stored)) × (is_some (found db stored) ≡ true))
    ⊎ ((times db (numbers_of stored) ≡ 0) × (found db stored ≡ None))
found_or_not db [] = inr (refl, refl)
found_or_not db (x ∷ xs) =
    let count = first_counts db x xs in
    elim (cases_eq x.db db) [
      | inl e ↦
          let yes = same-yes x.db db e in
          inl (
            omega arith,
            ap is_some (cond-true (x.db == db) (Some x) (found db xs) (eq-eqb x.db db e)),
          )
      | inr ne ↦
          let no = same-no x.db db ne in
          let past = cond-false (x.db == db) (Some x) (found db xs) (ne_eqb x.db db ne) in
          elim (found_or_not db xs) [
            | inl some ↦ let more = some.0 in inl (omega arith, ap is_some past ∙ some.1)
            | inr none ↦ let zero_is = none.0 in inr (omega arith, past ∙ none.1)
          ]
    ]

-- ---- where it stands

-- the number of a database that stands after the first is there
behind_counts : (db : ℕ) (xs : List StoredDatabase) (i : ℕ) (d : StoredDatabase) → i < length xs
    → (get_or xs i d).db ≡ db → 0 < times db (numbers_of xs)
behind_counts db xs i d below e =
    let len = length-numbers xs in
    times-some db (numbers_of xs) i 0 (omega arith) (number_at xs i d below ∙ e)

-- where no other has its number, what stands at an index is found
pub found_here : (db : ℕ) (stored : List StoredDatabase) (i : ℕ) (d : StoredDatabase)
    → times db (numbers_of stored) ≤ 1 → i < length stored → (get_or stored i d).db ≡ db
    → found db stored ≡ Some (get_or stored i d)
found_here db [] i d once below e = absurd (omega arith)
found_here db (x ∷ xs) zero d once below e = cond-true (x.db == db) (Some x) _ (eq-eqb x.db db e)
found_here db (x ∷ xs) (suc i) d once below e =
    let count = first_counts db x xs in
    let more = behind_counts db xs i d (omega arith) e in
    let ne : x.db ≢ db = λ z. (let yes = same-yes x.db db z in omega arith) in
    cond-false _ (Some x) _ (ne_eqb x.db db ne) ∙ found_here db xs i d (omega arith) (omega arith) e

-- what is found has the number, and stands at an index
pub found_stands : (db : ℕ) (stored : List StoredDatabase) (one : StoredDatabase)
    → found db stored ≡ Some one
    → (one.db ≡ db) × ((index : ℕ) × (slice_get stored index ≡ Some one))
found_stands db [] one e = absurd (none_some (found db []) one refl e)
found_stands db (x ∷ xs) one e = elim (cases_eq x.db db) [
  | inl same_number ↦
      let is = same_some x one
      (sym (cond-true (x.db == db) (Some x) (found db xs) (eq-eqb x.db db same_number)) ∙ e) in (
        sym (ap (λ s. s.db) is) ∙ same_number,
        (0, sym (cond-true (x.db == db) (Some x) (found db xs) (eq-eqb x.db db same_number)) ∙ e),
      )
  | inr ne ↦
      let behind = found_stands db xs one
      (sym (cond-false (x.db == db) (Some x) (found db xs) (ne_eqb x.db db ne)) ∙ e) in
      (behind.0, (suc behind.1.0, behind.1.1))
]

pub found_at : (db : ℕ) (stored : List StoredDatabase) (one : StoredDatabase)
    → Distinct (numbers_of stored) → (found db stored ≡ Some one)
    ↔ ((one.db ≡ db) × ((index : ℕ) × (slice_get stored index ≡ Some one)))
found_at db stored one distinct = (
  found_stands db stored one,
  λ p.
      let here = get_or_from_slice_get stored p.1.0 one one p.1.1 in
      found_here db stored p.1.0 one (distinct-times (numbers_of stored) distinct db)
      (slice_get_within stored p.1.0 one p.1.1) (ap (λ s. s.db) here ∙ p.0) ∙ ap (λ s. Some s) here,
)

-- ---- changed

abbrev now_is : ℕ → (Database ℕ → Database ℕ) → StoredDatabase → StoredDatabase
now_is db change one = record { db = db; database = change one.database }

none_changed : (db : ℕ) (change : Database ℕ → Database ℕ) (xs : List StoredDatabase)
    → times db (numbers_of xs) ≡ 0 → with_changed xs db change ≡ xs
none_changed db change [] none = refl
none_changed db change (x ∷ xs) none =
    let count = first_counts db x xs in
    let ne : x.db ≢ db = λ z. (let yes = same-yes x.db db z in omega arith) in
    ap (λ y. y ∷ with_changed xs db change) (cond-false (x.db == db) (now_is db change x) x
    (ne_eqb x.db db ne)) ∙ ap (onto x) (none_changed db change xs (omega arith))

pub changed_by_number : (db : ℕ) (change : Database ℕ → Database ℕ) (stored : List StoredDatabase)
    (i : ℕ) (d : StoredDatabase) → times db (numbers_of stored) ≤ 1 → i < length stored
    → (get_or stored i d).db ≡ db
    → with_changed stored db change ≡ set stored i (now_is db change (get_or stored i d))
changed_by_number db change [] i d once below e = absurd (omega arith)
changed_by_number db change (x ∷ xs) zero d once below e =
    let count = first_counts db x xs in
    let yes = same-yes x.db db e in
    ap (λ y. y ∷ with_changed xs db change) (cond-true (x.db == db) (now_is db change x) x
    (eq-eqb x.db db e)) ∙ ap (onto (now_is db change x)) (none_changed db change xs (omega arith))
changed_by_number db change (x ∷ xs) (suc i) d once below e =
    let count = first_counts db x xs in
    let more = behind_counts db xs i d (omega arith) e in
    let ne : x.db ≢ db = λ z. (let yes = same-yes x.db db z in omega arith) in
    ap (λ y. y ∷ with_changed xs db change) (cond-false (x.db == db) (now_is db change x) x
    (ne_eqb x.db db ne))
    ∙ ap (onto x) (changed_by_number db change xs i d (omega arith) (omega arith) e)

-- one database changed twice
pub changed_twice : (db : ℕ) (first second : Database ℕ → Database ℕ) (stored : List StoredDatabase)
    → with_changed (with_changed stored db first) db second
    ≡ with_changed stored db (λ database. second (first database))
changed_twice db first second [] = refl
changed_twice db first second (x ∷ xs) =
    let both : Database ℕ → Database ℕ = λ database. second (first database) in
    let rest : List StoredDatabase = with_changed (with_changed xs db first) db second in
    elim (cases_eq x.db db) [
      | inl e ↦
          let once = cond-true (x.db == db) (now_is db first x) x (eq-eqb x.db db e) in
          let twice = cond-true (db == db) _ (now_is db first x) (eq-eqb db db refl) in
          let same = cond-true (x.db == db) (now_is db both x) x (eq-eqb x.db db e) in
          ap (λ y. changed_if db second y ∷ rest) once ∙ ap (λ y. y ∷ rest) (twice ∙ sym same)
          ∙ ap (onto (changed_if db both x)) (changed_twice db first second xs)
      | inr ne ↦
          let once = cond-false (x.db == db) (now_is db first x) x (ne_eqb x.db db ne) in
          let twice = cond-false (x.db == db) (now_is db second x) x (ne_eqb x.db db ne) in
          let same = cond-false (x.db == db) (now_is db both x) x (ne_eqb x.db db ne) in
          ap (λ y. changed_if db second y ∷ rest) once ∙ ap (λ y. y ∷ rest) (twice ∙ sym same)
          ∙ ap (onto (changed_if db both x)) (changed_twice db first second xs)
    ]

-- ---- taken out

kept : (db : ℕ) (x : StoredDatabase) (xs : List StoredDatabase) → x.db ≢ db
    → without_database (x ∷ xs) db ≡ x ∷ without_database xs db
kept db x xs ne = cond-true (not (x.db == db)) _ _ (ap not (ne_eqb x.db db ne))

none_out : (db : ℕ) (xs : List StoredDatabase) → times db (numbers_of xs) ≡ 0
    → without_database xs db ≡ xs
none_out db [] none = refl
none_out db (x ∷ xs) none =
    let count = first_counts db x xs in
    let ne : x.db ≢ db = λ z. (let yes = same-yes x.db db z in omega arith) in
    kept db x xs ne ∙ ap (onto x) (none_out db xs (omega arith))

pub without_by_number : (db : ℕ) (stored : List StoredDatabase) (i : ℕ) (d : StoredDatabase)
    → times db (numbers_of stored) ≤ 1 → i < length stored → (get_or stored i d).db ≡ db
    → without_database stored db ≡ remove stored i
without_by_number db [] i d once below e = absurd (omega arith)
without_by_number db (x ∷ xs) zero d once below e =
    let count = first_counts db x xs in
    let yes = same-yes x.db db e in
    cond-false (not (x.db == db)) _ _ (ap not (eq-eqb x.db db e)) ∙ none_out db xs (omega arith)
without_by_number db (x ∷ xs) (suc i) d once below e =
    let count = first_counts db x xs in
    let more = behind_counts db xs i d (omega arith) e in
    let ne : x.db ≢ db = λ z. (let yes = same-yes x.db db z in omega arith) in
    kept db x xs ne ∙ ap (onto x) (without_by_number db xs i d (omega arith) (omega arith) e)

-- ---- which names are numbers

-- a number is the name of a chunk of the manager's that is not the directory
pub number_counts : (image : List ℕ) (stored : List StoredDatabase) (db : ℕ)
    → HasDatabases image stored → IsHeaderSlot image db ↔ (0 < times db (numbers_of stored))
number_counts image stored db h = (
  λ is.
      let some = owned_some image db 0 h.heap is.owner (omega arith) in
      let once = h.listed_once db some in
      let yes = same-yes (owner_under image db) 0 is.owner in
      let no = same-no db (directory_of image) is.other in
      omega arith,
  λ more. all-times (IsHeaderSlot image) (numbers_of stored) (header_slots image stored h) db more,
)

pub is_number : (image : List ℕ) (stored : List StoredDatabase) (db : ℕ) → HasDatabases image stored
    → (IsHeaderSlot image db ↔ (is_some (found db stored) ≡ true))
    × ((IsHeaderSlot image db → ⊥) ↔ (found db stored ≡ None))
is_number image stored db h =
    let counts = number_counts image stored db h in
    elim (found_or_not db stored) [
      | inl some ↦
          let is = counts.1 some.0 in
          let never : found db stored ≡ None → ⊥ =
          λ e. (let no = ap is_some e in let yes = some.1 in absurd (cc)) in
          ((λ _. some.1, λ _. is), (λ other. absurd (other is), λ e. absurd (never e)))
      | inr none ↦
          let never : IsHeaderSlot image db → ⊥ =
          λ is. (let more = counts.0 is in let zero_is = none.0 in omega arith) in (
            (λ is. absurd (never is), λ yes. absurd (let no = ap is_some none.1 in cc)),
            (λ _. none.1, λ _. never),
          )
    ]
