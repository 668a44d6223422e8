-- The IDs that are kept, as the pass over the records finds them.
use Rattle.std.proofs.Common.{◌≡◌, ◌≢◌, ℕ, zero, suc, ◌+◌, ◌<◌, ◌≤◌, Bool, true, false, cond, List, [], ◌∷◌, ◌++◌, length, get_or, set, take, drop, refl, sym, ap, subst, ◌∙◌, arith, inl, inr}
use Rattle.std.specs.Prelude.{◌==◌, ◌&&◌, ◌⊎◌, ◌↔◌, not, slice_index, All}
use Rattle.std.proofs.Math.Seq.{take-suc, take-suc-set, drop-cons}
use Rattle.std.proofs.lemmas.Bool.{cases_eq, cases_lt, eq-eqb, ne_eqb}
use Rattle.std.proofs.lemmas.List.{append_assoc, take_all, get_or-set_other, length-set}
use Rattle.std.proofs.lemmas.List.Elements.{All-get_or, All-set}
use Rattle.heap_model.specs.Lists.{times}
use Rattle.heap_model.specs.UniqueIds.{greatest_id}
use Rattle.heap_model.specs.Files.{keeps_id, kept_ids}
use Rattle.bit_sets.specs.Sets.{IsInSet, HasNone, AddsNumber}
use Rattle.laws_heap.proofs.Tests.{cond-true, cond-false, true_or_false}
use Rattle.laws_store.proofs.Times.{same-yes, same-no, times-cons, times-append}
use Rattle.file_ids.specs.Passes.{HasIds, kept_or_none}

-- ---- one ID more

pub has_put : (taken new ids : List ℕ) (id : ℕ) → AddsNumber taken new id → HasIds taken ids → HasIds new (id ∷ ids)
has_put taken new ids id adds has = record {
  are = λ q some. (
      let cons = times-cons q id ids in
      elim (cases_eq q id) [
        | inl e ↦ let one = same-yes id q (sym e) in (λ here. omega arith, λ used. subst (IsInSet new) (sym e) adds.here)
        | inr ne ↦
            let none = same-no id q (λ e. ne (sym e)) in
            let kept = adds.others q ne in
            let were = has.are q some in
            (λ here. (let used = were.0 (kept.0 here) in omega arith), λ used. kept.1 (were.1 (omega arith)))
      ]);
}

pub has_already : (taken ids : List ℕ) (id : ℕ) → (id ≡ 0) ⊎ IsInSet taken id → HasIds taken ids → HasIds taken (id ∷ ids)
has_already taken ids id already has = record {
  are = λ q some. (
      let cons = times-cons q id ids in
      let were = has.are q some in
      elim (cases_eq q id) [
        | inl e ↦ elim already [
          | inl none ↦ absurd (omega arith)
          | inr here ↦ let one = same-yes id q (sym e) in (λ has. omega arith, λ used. subst (IsInSet taken) (sym e) here)
        ]
        | inr ne ↦
            let none = same-no id q (λ e. ne (sym e)) in
            (λ here. (let used = were.0 here in omega arith), λ used. were.1 (omega arith))
      ]);
}

-- if a list has the same numbers but 0
pub has_same : (taken one other : List ℕ) → ((q : ℕ) → 0 < q → (0 < times q one ↔ 0 < times q other)) → HasIds taken one → HasIds taken other
has_same taken one other same has = record {
  are = λ q some. (λ here. (same q some).0 ((has.are q some).0 here), λ used. (has.are q some).1 ((same q some).1 used));
}

-- ---- whether a record keeps its ID

pub keeps_new : (earlier : List ℕ) (id : ℕ) → id ≢ 0 → times id earlier ≡ 0 → keeps_id earlier id ≡ true
keeps_new earlier id some none =
    ap (λ (b : Bool). not b && (times id earlier == 0)) (ne_eqb id 0 some)
    ∙ ap (λ (b : Bool). not false && b) (eq-eqb (times id earlier) 0 none)

none_kept : (b : Bool) → (b && false) ≡ false
none_kept true = refl
none_kept false = refl

pub keeps_none : (earlier : List ℕ) (id : ℕ) → id ≡ 0 → keeps_id earlier id ≡ false
keeps_none earlier id none = ap (λ (b : Bool). not b && (times id earlier == 0)) (eq-eqb id 0 none)

pub keeps_used : (earlier : List ℕ) (id : ℕ) → 0 < times id earlier → keeps_id earlier id ≡ false
keeps_used earlier id used =
    ap (λ (b : Bool). not (id == 0) && b) (ne_eqb (times id earlier) 0 (λ none. omega arith))
    ∙ none_kept (not (id == 0))

pub kept_is_new : (earlier : List ℕ) (id : ℕ) → keeps_id earlier id ≡ true → (id ≢ 0) × (times id earlier ≡ 0)
kept_is_new earlier id keeps = (
  λ none. (let no = keeps_none earlier id none in cc),
  elim (cases_lt 0 (times id earlier)) [
    | inl used ↦ let no = keeps_used earlier id used in absurd cc
    | inr new ↦ omega arith
  ],
)

-- ---- those that are kept of a list

kept_yes : (earlier ids : List ℕ) (id : ℕ) → keeps_id earlier id ≡ true → kept_ids earlier (id ∷ ids) ≡ id ∷ kept_ids (id ∷ earlier) ids
kept_yes earlier ids id keeps = cond-true (keeps_id earlier id) (id ∷ kept_ids (id ∷ earlier) ids) (kept_ids (id ∷ earlier) ids) keeps

kept_no : (earlier ids : List ℕ) (id : ℕ) → keeps_id earlier id ≡ false → kept_ids earlier (id ∷ ids) ≡ kept_ids (id ∷ earlier) ids
kept_no earlier ids id keeps = cond-false (keeps_id earlier id) (id ∷ kept_ids (id ∷ earlier) ids) (kept_ids (id ∷ earlier) ids) keeps

pub times-kept_yes : (q : ℕ) (earlier ids : List ℕ) (id : ℕ) → keeps_id earlier id ≡ true → times q (kept_ids earlier (id ∷ ids)) ≡ times q (id ∷ []) + times q (kept_ids (id ∷ earlier) ids)
times-kept_yes q earlier ids id keeps = ap (times q) (kept_yes earlier ids id keeps) ∙ times-append q (id ∷ []) (kept_ids (id ∷ earlier) ids)

pub times-kept_no : (q : ℕ) (earlier ids : List ℕ) (id : ℕ) → keeps_id earlier id ≡ false → times q (kept_ids earlier (id ∷ ids)) ≡ times q (kept_ids (id ∷ earlier) ids)
times-kept_no q earlier ids id keeps = ap (times q) (kept_no earlier ids id keeps)

-- none is kept twice, nor any of the earlier ones
pub kept_once : (q : ℕ) (earlier ids : List ℕ) → (times q (kept_ids earlier ids) ≤ 1) × (0 < times q earlier → times q (kept_ids earlier ids) ≡ 0)
kept_once q earlier [] = (omega arith, λ used. refl)
kept_once q earlier (id ∷ ids) =
    let ih = kept_once q (id ∷ earlier) ids in
    let behind = times-cons q id earlier in
    let one = times-cons q id [] in
    elim (true_or_false (keeps_id earlier id)) [
      | inl keeps ↦
          let count = times-kept_yes q earlier ids id keeps in
          elim (cases_eq id q) [
            | inl e ↦
                let same_id = same-yes id q e in
                let none : times q (kept_ids (id ∷ earlier) ids) ≡ 0 = ih.1 (omega arith) in
                let new = (kept_is_new earlier id keeps).1 in
                let also : times q earlier ≡ 0 = ap (λ (n : ℕ). times n earlier) (sym e) ∙ new in
                (omega arith, λ used. absurd (omega arith))
            | inr ne ↦ let other = same-no id q ne in let few = ih.0 in (omega arith, λ used. (let none = ih.1 (omega arith) in omega arith))
          ]
      | inr passes ↦
          let count = times-kept_no q earlier ids id passes in
          let few = ih.0 in
          (omega arith, λ used. (let none = ih.1 (omega arith) in omega arith))
    ]

kept_within : (q : ℕ) (earlier ids : List ℕ) → times q (kept_ids earlier ids) ≤ times q ids
kept_within q earlier [] = omega arith
kept_within q earlier (id ∷ ids) =
    let ih = kept_within q (id ∷ earlier) ids in
    let cons = times-append q (id ∷ []) ids in
    elim (true_or_false (keeps_id earlier id)) [
      | inl keeps ↦ let count = times-kept_yes q earlier ids id keeps in omega arith
      | inr passes ↦ let count = times-kept_no q earlier ids id passes in omega arith
    ]

-- each ID but 0 is, unless it is an earlier one
kept_some : (q : ℕ) (earlier ids : List ℕ) → 0 < q → times q earlier ≡ 0 → 0 < times q ids → 0 < times q (kept_ids earlier ids)
kept_some q earlier [] id_is new some = absurd (omega arith)
kept_some q earlier (id ∷ ids) id_is new some =
    let cons = times-cons q id ids in
    let one = times-cons q id [] in
    let behind = times-cons q id earlier in
    elim (cases_eq id q) [
      | inl e ↦
          let keeps = keeps_new earlier id (λ none. omega arith) (ap (λ (n : ℕ). times n earlier) e ∙ new) in
          let count = times-kept_yes q earlier ids id keeps in
          let same_id = same-yes id q e in
          omega arith
      | inr ne ↦
          let other = same-no id q ne in
          let ih = kept_some q (id ∷ earlier) ids id_is (omega arith) (omega arith) in
          elim (true_or_false (keeps_id earlier id)) [
            | inl keeps ↦ let count = times-kept_yes q earlier ids id keeps in omega arith
            | inr passes ↦ let count = times-kept_no q earlier ids id passes in omega arith
          ]
    ]

pub length-kept_ids : (earlier ids : List ℕ) → length (kept_ids earlier ids) ≤ length ids
length-kept_ids earlier [] = omega arith
length-kept_ids earlier (id ∷ ids) =
    let ih = length-kept_ids (id ∷ earlier) ids in
    elim (true_or_false (keeps_id earlier id)) [
      | inl keeps ↦ let long = ap (length {A = ℕ}) (kept_yes earlier ids id keeps) in omega arith
      | inr passes ↦ let long = ap (length {A = ℕ}) (kept_no earlier ids id passes) in omega arith
    ]

-- ---- as far as the pass has come

-- the IDs before an index, the last one first
abbrev pub earlier_ids : List ℕ → ℕ → List ℕ
earlier_ids ids zero = []
earlier_ids ids (suc count) = slice_index ids count ∷ earlier_ids ids count

times-earlier_ids : (q : ℕ) (ids : List ℕ) (count : ℕ) → count ≤ length ids → times q (earlier_ids ids count) ≡ times q (take count ids)
times-earlier_ids q ids zero most = refl
times-earlier_ids q ids (suc count) most =
    let ih = times-earlier_ids q ids count (omega arith) in
    let front = ap (times q) (take-suc ids count 0 (omega arith)) ∙ times-append q (take count ids) (get_or ids count 0 ∷ []) in
    let cons = times-append q (get_or ids count 0 ∷ []) (earlier_ids ids count) in
    omega arith

-- The set has the IDs before an index. The list has each ID that is kept, and 0 for each other.
-- After them it has only 0.
pub record KeptTo (all taken ids : List ℕ) (index : ℕ) : Type 0 where
  pub has : HasIds taken (earlier_ids all index)
  pub long : length ids ≡ length all
  pub zeros : (behind : ℕ) → index ≤ behind → behind < length ids → get_or ids behind 0 ≡ 0
  pub most : All (λ id. id ≤ greatest_id) ids
  pub front : kept_or_none [] all ≡ take index ids ++ kept_or_none (earlier_ids all index) (drop index all)

pub kept_first : (all taken ids : List ℕ) → HasNone taken → length ids ≡ length all → All (λ id. id ≡ 0) ids → KeptTo all taken ids 0
kept_first all taken ids none long zeros = record {
  has = record { are = λ id some. (λ has. absurd (none id has), λ used. absurd (omega arith)) };
  long = long;
  zeros = λ behind from below. All-get_or (λ id. id ≡ 0) ids behind 0 below zeros;
  most = λ k d below. (let is = zeros k d below in omega arith);
  front = refl;
}

front_more : (all ids new : List ℕ) (index here : ℕ) → index < length all → cond (keeps_id (earlier_ids all index) (get_or all index 0)) (get_or all index 0) 0 ≡ here → take (suc index) new ≡ take index ids ++ here ∷ []
    → kept_or_none [] all ≡ take index ids ++ kept_or_none (earlier_ids all index) (drop index all) → kept_or_none [] all ≡ take (suc index) new ++ kept_or_none (earlier_ids all (suc index)) (drop (suc index) all)
front_more all ids new index here inside is more front =
    let rest : List ℕ = kept_or_none (earlier_ids all (suc index)) (drop (suc index) all) in
    let put : List ℕ → List ℕ = λ xs. take index ids ++ xs in
    front
    ∙ ap (λ (xs : List ℕ). put (kept_or_none (earlier_ids all index) xs)) (drop-cons all index 0 inside)
    ∙ ap (λ (x : ℕ). put (x ∷ rest)) is
    ∙ sym (append_assoc (take index ids) (here ∷ []) rest)
    ∙ ap (λ (xs : List ℕ). xs ++ rest) (sym more)

-- a record keeps its ID
pub kept_here : (all taken new ids : List ℕ) (index id : ℕ) → index < length all → get_or all index 0 ≡ id → id ≢ 0 → id ≤ greatest_id → (IsInSet taken id → ⊥) → AddsNumber taken new id
    → KeptTo all taken ids index → KeptTo all new (set ids index id) (suc index)
kept_here all taken new ids index id inside is some most absent adds k =
    let earlier : List ℕ = earlier_ids all index in
    let long = k.long in
    let long_new = length-set ids index id in
    let unused : times id earlier ≡ 0 = elim (cases_lt 0 (times id earlier)) [
      | inl used ↦ absurd (absent ((k.has.are id (omega arith)).1 used))
      | inr none ↦ omega arith
    ] in
    let keeps = keeps_new earlier id some unused in
    record {
      has = subst (λ (x : ℕ). HasIds new (x ∷ earlier)) (sym is) (has_put taken new earlier id adds k.has);
      long = long_new ∙ k.long;
      zeros = λ behind from below. get_or-set_other ids index behind id 0 (λ e. omega arith) ∙ k.zeros behind (omega arith) (omega arith);
      most = All-set (λ q. q ≤ greatest_id) ids index id most k.most;
      front = front_more all ids (set ids index id) index id inside (ap (λ (x : ℕ). cond (keeps_id earlier x) x 0) is ∙ cond-true (keeps_id earlier id) id 0 keeps) (take-suc-set ids index id (omega arith)) k.front;
    }

-- it doesn't
pub kept_not : (all taken ids : List ℕ) (index id : ℕ) → index < length all → get_or all index 0 ≡ id → (id ≡ 0) ⊎ IsInSet taken id → KeptTo all taken ids index → KeptTo all taken ids (suc index)
kept_not all taken ids index id inside is already k =
    let earlier : List ℕ = earlier_ids all index in
    let long = k.long in
    let keeps : keeps_id earlier id ≡ false = elim already [
      | inl none ↦ keeps_none earlier id none
      | inr here ↦ elim (cases_eq id 0) [
        | inl none ↦ keeps_none earlier id none
        | inr some ↦ keeps_used earlier id ((k.has.are id (omega arith)).0 here)
      ]
    ] in
    record {
      has = subst (λ (x : ℕ). HasIds taken (x ∷ earlier)) (sym is) (has_already taken earlier id already k.has);
      long = k.long;
      zeros = λ behind from below. k.zeros behind (omega arith) below;
      most = k.most;
      front = front_more all ids ids index (get_or ids index 0) inside
          (ap (λ (x : ℕ). cond (keeps_id earlier x) x 0) is ∙ cond-false (keeps_id earlier id) id 0 keeps ∙ sym (k.zeros index (omega arith) (omega arith)))
          (take-suc ids index 0 (omega arith)) k.front;
    }

-- ---- all records

pub kept_taken : (all taken ids : List ℕ) → KeptTo all taken ids (length all) → HasIds taken (kept_ids [] all)
kept_taken all taken ids k = has_same taken (earlier_ids all (length all)) (kept_ids [] all) (λ q some. (
    let seen = times-earlier_ids q all (length all) (omega arith) ∙ ap (times q) (take_all (length all) all (omega arith)) in
    (λ used. kept_some q [] all some refl (omega arith), λ kept. (let within = kept_within q [] all in omega arith)))) k.has
