-- An image to which a database came, or of which one went.
use Rattle.laws_store.proofs.Words.{◌≡◌, ◌≢◌, ℕ, zero, suc, ◌+◌, ◌<◌, List, [], ◌∷◌, ◌++◌, length, map, get_or, refl, sym, ap, subst, ◌∙◌, arith, length-append, inl, inr, cases_eq, cases_lt, map-append, length-remove, get_or-remove_below, get_or-remove_above, All-push, sum_by_push, All, remove, directory_of, same, times, data_in, StoredDatabase, numbers_of, named_by, names_of, IsWhole, HasDatabases, Appends, Drops}
use Rattle.std.proofs.lemmas.List.Quantifiers.{all_pairs_remove}
use Rattle.laws_store.proofs.Times.{same-yes, same-no, times-cons, times-append, times-remove}
use Rattle.laws_store.proofs.NameCounts.{times-named, named-remove}
use Rattle.laws_store.proofs.Counts.{length-numbers, header_slots}
use Rattle.laws_store.proofs.KeptDatabases.{bytes_like, whole_like, number_owner}
use Rattle.laws_store.proofs.RewrittenDatabases.{number_at, other_number, get-any}

same-swap : (a b : ℕ) → same a b ≡ same b a
same-swap a b = elim (cases_eq a b) [
  | inl e ↦ same-yes a b e ∙ sym (same-yes b a (sym e))
  | inr ne ↦ same-no a b ne ∙ sym (same-no b a (λ e. ne (sym e)))
]

-- ---- one more

numbers-push : (stored : List StoredDatabase) (one : StoredDatabase)
    → numbers_of (stored ++ one ∷ []) ≡ numbers_of stored ++ one.db ∷ []
numbers-push stored one = map-append (λ (x : StoredDatabase). x.db) stored (one ∷ [])

times-push : (q : ℕ) (stored : List StoredDatabase) (one : StoredDatabase)
    → times q (numbers_of (stored ++ one ∷ [])) ≡ times q (numbers_of stored) + same q one.db
times-push q stored one =
    let list = ap (times q) (numbers-push stored one) in
    let both = times-append q (numbers_of stored) (one.db ∷ []) in
    let last : times q (one.db ∷ []) ≡ same one.db q + 0 = times-cons q one.db [] in
    let swap = same-swap one.db q in
    omega arith

named-push : (q : ℕ) (stored : List StoredDatabase) (one : StoredDatabase) → times q
    (named_by (stored ++ one ∷ [])) ≡ times q (named_by stored) + times q (data_in one.database)
named-push q stored one =
    let new = times-named q (stored ++ one ∷ []) in
    let old = times-named q stored in
    let sums = sum_by_push (λ (s : StoredDatabase). times q (data_in s.database)) stored one in
    omega arith

-- a header's number is not the directory's
not_directory : (image : List ℕ) (stored : List StoredDatabase) (k : ℕ) (d : StoredDatabase)
    → HasDatabases image stored → k < length stored → (get_or stored k d).db ≢ directory_of image
not_directory image stored k d h below e =
    let len = length-numbers stored in
    let header = header_slots image stored h k 0 (omega arith) in
    header.other (number_at stored k d below ∙ e)

pub appended : (old new : List ℕ) (stored : List StoredDatabase) (one : StoredDatabase)
    → HasDatabases old stored → Appends old new stored one → HasDatabases new (stored ++ one ∷ [])
appended old new stored one h a =
    let len = length-append stored (one ∷ []) in
    let earlier : All (IsWhole new) stored = λ k d below.
    whole_like old new (get_or stored k d) (bytes_like old new (get_or stored k d).db
    (a.managers (get_or stored k d).db (not_directory old stored k d h below)
    (number_owner old stored k d h below))) (h.each k d below) in
    record {
      heap = a.heap;
      whole = a.whole;
      listed_are = a.listed_are ∙ ap (λ slots. slots ++ one.db ∷ []) h.listed_are
          ∙ sym (numbers-push stored one);
      few = let few = a.few in omega arith;
      each = All-push (IsWhole new) stored one earlier a.database;
      own_names = a.own_names;
      named_once = λ name some.
          let more = named-push name stored one in
          let was = h.named_once name some in
          let balance = a.balance name some in
          omega arith;
      listed_once = λ name some.
          let more = times-push name stored one in
          let was = h.listed_once name some in
          let balance = a.owners name some in
          omega arith;
      none_listed =
          let more = times-push 0 stored one in
          let none = h.none_listed in
          let some = a.some in
          let no = same-no 0 one.db (λ e. omega arith) in
          omega arith;
    }

-- ---- one less

map-remove : {X Y : Type 0} (f : X → Y) (xs : List X) (i : ℕ)
    → map f (remove xs i) ≡ remove (map f xs) i
map-remove f [] zero = refl
map-remove f [] (suc i) = refl
map-remove f (x ∷ xs) zero = refl
map-remove f (x ∷ xs) (suc i) = ap (λ ys. f x ∷ ys) (map-remove f xs i)

-- what is left stood in the list at another index
record Left (stored : List StoredDatabase) (index k : ℕ) (d : StoredDatabase) : Type 0 where
  was : ℕ
  inside : was < length stored
  other : was ≢ index
  is : get_or (remove stored index) k d ≡ get_or stored was d

left_at : (stored : List StoredDatabase) (index k : ℕ) (d : StoredDatabase) → index < length stored
    → k < length (remove stored index) → Left stored index k d
left_at stored index k d below inside =
    let len = length-remove stored index below in
    elim (cases_lt k index) [
      | inl less ↦ record {
        was = k;
        inside = omega arith;
        other = λ e. omega arith;
        is = get_or-remove_below stored index d k less below;
      }
      | inr past ↦ record {
        was = k + 1;
        inside = omega arith;
        other = λ e. omega arith;
        is = get_or-remove_above stored index d k past below;
      }
    ]

each_left : (old new : List ℕ) (stored : List StoredDatabase) (index : ℕ) (one : StoredDatabase)
    → HasDatabases old stored → Drops old new stored index one
    → All (IsWhole new) (remove stored index)
each_left old new stored index one h p k d below =
    let left = left_at stored index k d p.inside below in
    let number = ap (λ x. x.db) (get-any stored index d one p.inside ∙ sym p.is) in
    let apart : (get_or stored left.was d).db ≢ one.db = λ e.
    other_number old stored index left.was d h p.inside left.inside left.other (e ∙ sym number) in
    let kept = bytes_like old new (get_or stored left.was d).db
    (p.managers (get_or stored left.was d).db (not_directory old stored left.was d h left.inside)
    apart (number_owner old stored left.was d h left.inside)) in
    subst (λ x. IsWhole new x) (sym left.is)
    (whole_like old new (get_or stored left.was d) kept (h.each left.was d left.inside))

pub dropped : (old new : List ℕ) (stored : List StoredDatabase) (index : ℕ) (one : StoredDatabase)
    → HasDatabases old stored → Drops old new stored index one
    → HasDatabases new (remove stored index)
dropped old new stored index one h p =
    let out = length-remove stored index p.inside in
    let count = length-numbers stored in
    let names = length-names stored in
    let numbers = map-remove (λ x. x.db) stored index in
    let number = number_at stored index one p.inside ∙ sym (ap (λ x. x.db) p.is) in
    let inside = p.inside in
    let less : (q : ℕ) → times q (numbers_of (remove stored index)) + same q one.db
    ≡ times q (numbers_of stored) = λ q. (
    let list = ap (times q) numbers in
    let gone = times-remove q (numbers_of stored) index 0 (omega arith) in
    let swap = same-swap one.db q in
    let here = ap (λ (n : ℕ). same n q) number in
    omega arith) in
    record {
      heap = p.heap;
      whole = p.whole;
      listed_are = p.listed_are ∙ ap (λ slots. remove slots index) h.listed_are ∙ sym numbers;
      few = let few = h.few in omega arith;
      each = each_left old new stored index one h p;
      own_names =
          rw (← (map-remove (λ x. x.database.header.name) stored index)) at (all_pairs_remove
          (λ a b. a ≢ b) (names_of stored) index (omega arith) h.own_names);
      named_once = λ name some.
          let gone = named-remove name stored index one p.inside in
          let same_data = ap (λ (x : StoredDatabase). times name (data_in x.database)) p.is in
          let was = h.named_once name some in
          let balance = p.balance name some in
          omega arith;
      listed_once = λ name some.
          let gone = less name in
          let was = h.listed_once name some in
          let balance = p.owners name some in
          let word = ap (same name) p.directory in
          omega arith;
      none_listed = let gone = less 0 in let none = h.none_listed in omega arith;
    } where
      length-names : (stored : List StoredDatabase) → length (names_of stored) ≡ length stored
      length-names [] = refl
      length-names (x ∷ stored) = let ih = length-names stored in omega arith
