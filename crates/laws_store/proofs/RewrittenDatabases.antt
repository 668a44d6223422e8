-- An image in which one database was rewritten has the others as they were.
use Rattle.laws_store.proofs.Words.{◌≡◌, ◌≢◌, ℕ, zero, suc, ◌+◌, ◌%◌, ◌<◌, List, [], ◌∷◌, length, map, get_or, set, refl, sym, ap, subst, ◌∙◌, arith, inl, inr, cases_eq, cases_order, get_or-map, get_or-set_same, get_or-set_other, length-set, All, managers_owner, directory_of, same, times, StoredDatabase, owner_under, numbers_of, IsWhole, HasDatabases, Rewrites}
use Rattle.laws_store.proofs.Owners.{directory_owner}
use Rattle.laws_store.proofs.NameCounts.{named-set}
use Rattle.laws_store.proofs.Counts.{length-numbers, header_slots, numbers_distinct}
use Rattle.laws_store.proofs.KeptDatabases.{bytes_like, directory_like, listed_like, whole_like, same-like, number_owner}

-- ---- the numbers

pub number_at : (stored : List StoredDatabase) (k : ℕ) (d : StoredDatabase) → k < length stored
    → get_or (numbers_of stored) k 0 ≡ (get_or stored k d).db
number_at stored k d below = get_or-map (λ (one : StoredDatabase). one.db) stored k d 0 below

onto : ℕ → List ℕ → List ℕ
onto x xs = x ∷ xs

numbers_set : (stored : List StoredDatabase) (i : ℕ) (one : StoredDatabase) → i < length stored
    → one.db ≡ (get_or stored i one).db → numbers_of (set stored i one) ≡ numbers_of stored
unfolding onto
numbers_set [] i one below e = absurd (omega arith)
numbers_set (x ∷ stored) zero one below e = ap (λ (n : ℕ). n ∷ numbers_of stored) e
numbers_set (x ∷ stored) (suc i) one below e =
    ap (onto x.db) (numbers_set stored i one (omega arith) e)

-- no other database has the number
pub other_number : (image : List ℕ) (stored : List StoredDatabase) (i k : ℕ) (d : StoredDatabase)
    → HasDatabases image stored → i < length stored → k < length stored → k ≢ i
    → (get_or stored k d).db ≢ (get_or stored i d).db
other_number image stored i k d h below inside apart e =
    let len = length-numbers stored in
    let distinct = numbers_distinct image stored h in
    let a = number_at stored k d inside in
    let b = number_at stored i d below in
    elim (cases_order k i) [
      | inl same_index ↦ apart same_index
      | inr other ↦ elim other [
        | inl less ↦ distinct k i 0 less (omega arith) (a ∙ e ∙ sym b)
        | inr more ↦ distinct i k 0 more (omega arith) (b ∙ sym e ∙ sym a)
      ]
    ]

-- ---- the databases

pub get-any : (stored : List StoredDatabase) (i : ℕ) (c d : StoredDatabase) → i < length stored
    → get_or stored i c ≡ get_or stored i d
get-any [] i c d below = absurd (omega arith)
get-any (x ∷ stored) zero c d below = refl
get-any (x ∷ stored) (suc i) c d below = get-any stored i c d (omega arith)

each_rewritten : (old new : List ℕ) (stored : List StoredDatabase) (index : ℕ)
    (one : StoredDatabase) → HasDatabases old stored → Rewrites old new stored index one
    → All (IsWhole new) (set stored index one)
each_rewritten old new stored index one h r k d below =
    let len = length-set stored index one in
    let inside : k < length stored = omega arith in
    elim (cases_eq k index) [
      | inl here ↦ rw (← (ap (λ i. get_or (set stored index one) i d) here
          ∙ get_or-set_same stored index one d r.inside)) at r.whole
      | inr other ↦
          let number = r.number ∙ ap (λ x. x.db) (get-any stored index one d r.inside) in
          let apart : (get_or stored k d).db ≢ one.db =
          λ e. other_number old stored index k d h r.inside inside other (e ∙ number) in
          let kept = bytes_like old new (get_or stored k d).db
          (r.managers (get_or stored k d).db apart (number_owner old stored k d h inside)) in
          subst (λ x. IsWhole new x) (sym (get_or-set_other stored index k one d other))
          (whole_like old new (get_or stored k d) kept (h.each k d inside))
    ]

pub rewritten : (old new : List ℕ) (stored : List StoredDatabase) (index : ℕ) (one : StoredDatabase)
    → HasDatabases old stored → Rewrites old new stored index one
    → HasDatabases new (set stored index one)
rewritten old new stored index one h r =
    let numbers = numbers_set stored index one r.inside r.number in
    let len = length-set stored index one in
    let count = length-numbers stored in
    let mine = number_at stored index one r.inside ∙ sym r.number in
    let header = header_slots old stored h index 0 (let inside = r.inside in omega arith) in
    let apart : directory_of old ≢ one.db = λ e. header.other (mine ∙ sym e) in
    let directory = directory_like old new h.heap r.heap r.directory
    (λ some. r.managers (directory_of old) apart (directory_owner old h.heap some)) in
    record {
      heap = r.heap;
      whole = ap (λ (bytes : List ℕ). length bytes % 4) directory ∙ h.whole;
      listed_are = listed_like old new directory ∙ h.listed_are ∙ sym numbers;
      few = let few = h.few in omega arith;
      each = each_rewritten old new stored index one h r;
      own_names = r.own_names;
      named_once = λ name some.
          let sums = named-set name stored index one one r.inside in
          let was = h.named_once name some in
          let balance = r.balance name some in
          omega arith;
      listed_once = λ name some.
          ap (λ (slots : List ℕ). times name slots + same name (directory_of new)) numbers
          ∙ ap (λ (slot : ℕ). times name (numbers_of stored) + same name slot) r.directory
          ∙ h.listed_once name some ∙ same-like (owner_under old name)
          (owner_under new name) managers_owner (r.owners name).1 (r.owners name).0;
      none_listed = ap (times 0) numbers ∙ h.none_listed;
    }

onto_name : List ℕ → List (List ℕ) → List (List ℕ)
onto_name x xs = x ∷ xs

-- where the name of the database stays, so do the names of all
pub names_set : (stored : List StoredDatabase) (i : ℕ) (one : StoredDatabase) → i < length stored
    → one.database.header.name ≡ (get_or stored i one).database.header.name
    → map (λ (x : StoredDatabase). x.database.header.name) (set stored i one)
    ≡ map (λ (x : StoredDatabase). x.database.header.name) stored
unfolding onto_name
names_set [] i one below e = absurd (omega arith)
names_set (x ∷ stored) zero one below e = ap (λ n. n ∷ map (λ y. y.database.header.name) stored) e
names_set (x ∷ stored) (suc i) one below e =
    ap (onto_name x.database.header.name) (names_set stored i one (omega arith) e)
