-- The records of a file get IDs, and only these, if there are fewer records than IDs.
use Rattle.std.proofs.Common.{◌≡◌, ℕ, ◌+◌, ◌<◌, ◌≤◌, Bool, true, false, List, [], ◌∷◌, length, refl, sym, ap, ◌∙◌, arith, inl, inr}
use Rattle.heap_model.specs.Files.{keeps_id, kept_ids, AreGiven}
use Rattle.laws_heap.proofs.Tests.{true_or_false, cond-true, cond-false}
use Rattle.laws_store.proofs.Fresh.{one_fresh, fresh_fits, fresh_once}

-- ---- no others

both : (b : Bool) → b ≡ true → b ≡ false → ⊥
both b is is_not = cc

pub given_same : (taken earlier : List ℕ) (seed : ℕ) (ids one other : List ℕ) (last other_last : ℕ)
    → AreGiven taken earlier seed ids one last → AreGiven taken earlier seed ids other other_last
    → (one ≡ other) × (last ≡ other_last)
given_same taken earlier seed [] [] [] last other_last a b = (refl, a ∙ sym b)
given_same taken earlier seed [] [] (y ∷ other) last other_last a b = absurd b
given_same taken earlier seed [] (x ∷ one) other last other_last a b = absurd a
given_same taken earlier seed (id ∷ ids) [] other last other_last a b = absurd a
given_same taken earlier seed (id ∷ ids) (x ∷ one) [] last other_last a b = absurd b
given_same taken earlier seed (id ∷ ids) (x ∷ one) (y ∷ other) last other_last a b = elim a [
  | inl kept ↦ elim b [
    | inl also ↦
        let same : x ≡ y = kept.1 ∙ sym also.1 in
        let rest = given_same taken _ seed ids one other last _ kept.2 also.2 in
        (ap (λ (n : ℕ). n ∷ one) same ∙ ap (λ (ns : List ℕ). y ∷ ns) rest.0, rest.1)
    | inr fresh ↦ absurd (both (keeps_id earlier id) kept.0 fresh.0)
  ]
  | inr fresh ↦ elim b [
    | inl kept ↦ absurd (both (keeps_id earlier id) kept.0 fresh.0)
    | inr also ↦
        let same : x ≡ y = fresh_once taken seed x y fresh.1 also.1 in
        let moved = rw (← same) at also.2 in
        let rest = given_same _ _ x ids one other last _ fresh.2 moved in
        (ap (λ (n : ℕ). n ∷ one) same ∙ ap (λ (ns : List ℕ). y ∷ ns) rest.0, rest.1)
  ]
]

-- ---- there are some

pub record HasGiven (taken earlier : List ℕ) (seed : ℕ) (ids : List ℕ) : Type 0 where
  pub given : List ℕ
  pub last_seed : ℕ
  pub are : AreGiven taken earlier seed ids given last_seed
  pub many : length given ≡ length ids

some_given : (taken earlier : List ℕ) (seed : ℕ) (ids : List ℕ) → seed ≤ 0xFFFFFF
    → length taken + length ids ≤ 0xFFFFFF → HasGiven taken earlier seed ids
some_given taken earlier seed [] most few =
    record { given = []; last_seed = seed; are = refl; many = refl }
some_given taken earlier seed (id ∷ ids) most few = elim (true_or_false (keeps_id earlier id)) [
  | inl keeps ↦
      let rest = some_given taken (id ∷ earlier) seed ids most (omega arith) in
      let many = rest.many in
      record {
        given = id ∷ rest.given;
        last_seed = rest.last_seed;
        are = inl (keeps, refl, rest.are);
        many = omega arith;
      }
  | inr passes ↦
      let found = one_fresh taken seed most (omega arith) in
      let fits = fresh_fits taken seed found.0 most found.1 in
      let rest = some_given (found.0 ∷ taken) (id ∷ earlier) found.0 ids fits.1 (omega arith) in
      let many = rest.many in
      record {
        given = found.0 ∷ rest.given;
        last_seed = rest.last_seed;
        are = inr (passes, found.1, rest.are);
        many = omega arith;
      }
]

kept_few : (earlier ids : List ℕ) → length (kept_ids earlier ids) ≤ length ids
kept_few earlier [] = omega arith
kept_few earlier (id ∷ ids) =
    let rest = kept_few (id ∷ earlier) ids in
    elim (true_or_false (keeps_id earlier id)) [
      | inl keeps ↦
          let e = ap length
          (cond-true (keeps_id earlier id) (id ∷ kept_ids (id ∷ earlier) ids)
          (kept_ids (id ∷ earlier) ids) keeps) in
          omega arith
      | inr passes ↦
          let e = ap length
          (cond-false (keeps_id earlier id) (id ∷ kept_ids (id ∷ earlier) ids)
          (kept_ids (id ∷ earlier) ids) passes) in
          omega arith
    ]

-- there are more than twice as many IDs as records
pub ids_exist : (seed : ℕ) (ids : List ℕ) → seed ≤ 0xFFFFFF → length ids < 0x10000
    → HasGiven (kept_ids [] ids) [] seed ids
ids_exist seed ids most few =
    let kept = kept_few [] ids in some_given (kept_ids [] ids) [] seed ids most (omega arith)
