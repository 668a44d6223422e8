-- Fresh IDs after a seed, as the pass over the list gives them.
use Rattle.std.proofs.Common.{◌≡◌, ◌≢◌, ℕ, suc, ◌+◌, ◌-◌, ◌*◌, ◌%◌, ◌<◌, ◌≤◌, List, [], ◌∷◌, ◌++◌, length, get_or, set, take, drop, refl, sym, ap, subst, ◌∙◌, arith, inl, inr}
use Rattle.std.proofs.Math.Seq.{take-suc, take-suc-set, drop-cons}
use Rattle.std.proofs.lemmas.Bool.{cases_lt}
use Rattle.std.proofs.lemmas.List.{append-nil, append_assoc, take_all, drop_all, drop-set-lt}
use Rattle.heap_model.specs.Lists.{times}
use Rattle.heap_model.specs.UniqueIds.{greatest_id, next_id, id_behind, IsFresh}
use Rattle.bit_sets.specs.Sets.{IsInSet, AddsNumber}
use Rattle.laws_store.proofs.Fresh.{id_behind_is, id_behind_fits, fresh_exists}
use Rattle.file_ids.specs.Passes.{HasIds, HasRoomFor, ZerosGetFresh}
use Rattle.file_ids.proofs.KeptLaws.{has_put}

-- ---- the walk to the first that is free

-- an ID after a seed, and the set has all IDs before it
pub record Passes (taken : List ℕ) (seed id : ℕ) : Type 0 where
  pub behind : ℕ
  pub below : behind < greatest_id
  pub is : id ≡ id_behind seed behind
  pub full : (earlier : ℕ) → earlier < behind → IsInSet taken (id_behind seed earlier)

pub passes_first : (taken : List ℕ) (seed id : ℕ) → id ≡ next_id seed → Passes taken seed id
passes_first taken seed id is = record { behind = 0; below = omega arith; is = is; full = λ earlier less. absurd (omega arith) }

more_full : (taken : List ℕ) (seed id : ℕ) → IsInSet taken id → (p : Passes taken seed id) → (earlier : ℕ) → earlier < suc p.behind → IsInSet taken (id_behind seed earlier)
more_full taken seed id here p earlier less = elim (cases_lt earlier p.behind) [
  | inl before ↦ p.full earlier before
  | inr last ↦ let e : earlier ≡ p.behind = omega arith in subst (IsInSet taken) (p.is ∙ ap (id_behind seed) (sym e)) here
]

behind_more : (taken : List ℕ) (seed id : ℕ) → seed ≤ greatest_id → HasRoomFor taken 0 → IsInSet taken id → (p : Passes taken seed id) → suc p.behind < greatest_id
behind_more taken seed id most room here p = elim (cases_lt (suc p.behind) greatest_id) [
  | inl less ↦ less
  | inr past ↦
      let few = room.few in
      absurd (fresh_exists room.ids seed most (omega arith) (λ n low.
      (room.has.are (id_behind seed n) (id_behind_fits seed n most).0).0 (more_full taken seed id here p n (omega arith))))
]

pub passes_more : (taken : List ℕ) (seed id next : ℕ) → seed ≤ greatest_id → HasRoomFor taken 0 → IsInSet taken id → next ≡ next_id id → Passes taken seed id → Passes taken seed next
passes_more taken seed id next most room here is p = record {
  behind = suc p.behind;
  below = behind_more taken seed id most room here p;
  is = is ∙ ap next_id p.is;
  full = more_full taken seed id here p;
}

-- the number of IDs between a seed and an ID after it
abbrev pub steps_to : ℕ → ℕ → ℕ
steps_to seed id = (id + (2 * greatest_id - 1 - seed)) % greatest_id

steps_are : (seed id behind : ℕ) → seed ≤ greatest_id → behind < greatest_id → id ≡ id_behind seed behind → steps_to seed id ≡ behind
steps_are seed id behind most below is =
    let e = id_behind_is seed behind most in
    elim (cases_lt (seed + behind) greatest_id) [
      | inl less ↦ omega arith
      | inr past ↦ omega arith
    ]

-- the walk comes nearer to its end
pub fewer_left : (taken : List ℕ) (seed id next : ℕ) → seed ≤ greatest_id → HasRoomFor taken 0 → IsInSet taken id → next ≡ next_id id → Passes taken seed id → greatest_id - steps_to seed next < greatest_id - steps_to seed id
fewer_left taken seed id next most room here is p =
    let more = behind_more taken seed id most room here p in
    let now = steps_are seed id p.behind most p.below p.is in
    let then = steps_are seed next (suc p.behind) most more (is ∙ ap next_id p.is) in
    omega arith

pub passed_fits : (taken : List ℕ) (seed id : ℕ) → seed ≤ greatest_id → Passes taken seed id → (0 < id) × (id ≤ greatest_id)
passed_fits taken seed id most p =
    let fits = id_behind_fits seed p.behind most in
    let is = p.is in
    let some = fits.0 in
    let least = fits.1 in
    (omega arith, omega arith)

-- at its end it has found the fresh one
pub fresh_there : (taken ids : List ℕ) (seed id : ℕ) → seed ≤ greatest_id → (IsInSet taken id → ⊥) → Passes taken seed id → HasIds taken ids → IsFresh ids seed id
fresh_there taken ids seed id most absent p has = record {
  behind = p.behind;
  first = record {
    here = elim (cases_lt 0 (times (id_behind seed p.behind) ids)) [
      | inl used ↦ absurd (absent (subst (IsInSet taken) (sym p.is) ((has.are (id_behind seed p.behind) (id_behind_fits seed p.behind most).0).1 used)))
      | inr none ↦ omega arith
    ];
    none_below = λ earlier less none. (
        let used = (has.are (id_behind seed earlier) (id_behind_fits seed earlier most).0).0 (p.full earlier less) in
        omega arith);
  };
  is = p.is;
}

-- ---- as far as the pass has come

-- If the set had these IDs first, the list was filled up to an index with the fresh ones. The set
-- now has the fresh ones too, and the list after the index is as it was.
pub record FilledTo (known : List ℕ) (first_seed : ℕ) (old taken : List ℕ) (seed : ℕ) (new : List ℕ) (index : ℕ) : Type 0 where
  pub ids : List ℕ
  pub has : HasIds taken ids
  pub few : length ids ≤ length known + index
  pub behind : drop index new ≡ drop index old
  pub front : (given : List ℕ) (last_seed : ℕ) → ZerosGetFresh ids seed (drop index old) given last_seed → ZerosGetFresh known first_seed old (take index new ++ given) last_seed

pub filled_first : (known old taken : List ℕ) (seed : ℕ) → HasIds taken known → FilledTo known seed old taken seed old 0
filled_first known old taken seed has = record {
  ids = known;
  has = has;
  few = omega arith;
  behind = refl;
  front = λ given last_seed filled. filled;
}

-- one ID more is given, whether it stood there or is fresh
front_more : (known ids more_ids : List ℕ) (first_seed seed seed_then : ℕ) (old new put : List ℕ) (index one : ℕ) → index < length old → take (suc index) put ≡ take index new ++ one ∷ []
    → ((given : List ℕ) (last_seed : ℕ) → ZerosGetFresh more_ids seed_then (drop (suc index) old) given last_seed → ZerosGetFresh ids seed (get_or old index 0 ∷ drop (suc index) old) (one ∷ given) last_seed)
    → ((given : List ℕ) (last_seed : ℕ) → ZerosGetFresh ids seed (drop index old) given last_seed → ZerosGetFresh known first_seed old (take index new ++ given) last_seed)
    → (given : List ℕ) (last_seed : ℕ) → ZerosGetFresh more_ids seed_then (drop (suc index) old) given last_seed → ZerosGetFresh known first_seed old (take (suc index) put ++ given) last_seed
front_more known ids more_ids first_seed seed seed_then old new put index one inside is_put step front given last_seed filled =
    let here = subst (λ (xs : List ℕ). ZerosGetFresh ids seed xs (one ∷ given) last_seed) (sym (drop-cons old index 0 inside)) (step given last_seed filled) in
    let all = front (one ∷ given) last_seed here in
    subst (λ (xs : List ℕ). ZerosGetFresh known first_seed old xs last_seed) (sym (append_assoc (take index new) (one ∷ []) given) ∙ ap (λ (xs : List ℕ). xs ++ given) (sym is_put)) all

-- the first of the elements after the index, and the rest, are as they were
same_here : (old new : List ℕ) (index : ℕ) → index < length old → index < length new → drop index new ≡ drop index old → (get_or new index 0 ≡ get_or old index 0) × (drop (suc index) new ≡ drop (suc index) old)
same_here old new index inside within same =
    let one = drop-cons old index 0 inside in
    let other = drop-cons new index 0 within in
    let both : get_or new index 0 ∷ drop (suc index) new ≡ get_or old index 0 ∷ drop (suc index) old = sym other ∙ same ∙ one in
    (cc, cc)

pub filled_stays : (known : List ℕ) (first_seed : ℕ) (old taken : List ℕ) (seed : ℕ) (new : List ℕ) (index : ℕ) → index < length old → length new ≡ length old → get_or new index 0 ≢ 0
    → FilledTo known first_seed old taken seed new index → FilledTo known first_seed old taken seed new (suc index)
filled_stays known first_seed old taken seed new index inside long some f =
    let same = same_here old new index inside (omega arith) f.behind in
    let few = f.few in
    record {
      ids = f.ids;
      has = f.has;
      few = omega arith;
      behind = same.1;
      front = front_more known f.ids f.ids first_seed seed seed old new new index (get_or new index 0) inside (take-suc new index 0 (omega arith))
          (λ given last_seed filled. inl ((λ none. some (same.0 ∙ none)), same.0, filled)) f.front;
    }

pub filled_fresh : (known : List ℕ) (first_seed : ℕ) (old taken more : List ℕ) (seed : ℕ) (new : List ℕ) (index one : ℕ) → index < length old → length new ≡ length old → get_or new index 0 ≡ 0
    → ((ids : List ℕ) → HasIds taken ids → IsFresh ids seed one) → AddsNumber taken more one → FilledTo known first_seed old taken seed new index → FilledTo known first_seed old more one (set new index one) (suc index)
filled_fresh known first_seed old taken more seed new index one inside long none fresh adds f =
    let same = same_here old new index inside (omega arith) f.behind in
    let few = f.few in
    record {
      ids = one ∷ f.ids;
      has = has_put taken more f.ids one adds f.has;
      few = omega arith;
      behind = drop-set-lt (suc index) new index one (omega arith) ∙ same.1;
      front = front_more known f.ids (one ∷ f.ids) first_seed seed one old new (set new index one) index one inside (take-suc-set new index one (omega arith))
          (λ given last_seed filled. inr (sym same.0 ∙ none, fresh f.ids f.has, filled)) f.front;
    }

-- there is a fresh one still
pub room_left : (known : List ℕ) (first_seed : ℕ) (old taken : List ℕ) (seed : ℕ) (new : List ℕ) (index : ℕ) → length known + length old < greatest_id → index < length old → FilledTo known first_seed old taken seed new index → HasRoomFor taken 0
room_left known first_seed old taken seed new index room inside f = let few = f.few in record { ids = f.ids; has = f.has; few = omega arith }

pub filled_all : (known : List ℕ) (first_seed : ℕ) (old taken : List ℕ) (seed : ℕ) (new : List ℕ) → length new ≡ length old → FilledTo known first_seed old taken seed new (length old) → ZerosGetFresh known first_seed old new seed
filled_all known first_seed old taken seed new long f =
    let none : drop (length old) old ≡ [] = drop_all (length old) old (omega arith) in
    let last : ZerosGetFresh f.ids seed (drop (length old) old) [] seed = subst (λ (xs : List ℕ). ZerosGetFresh f.ids seed xs [] seed) (sym none) refl in
    subst (λ (xs : List ℕ). ZerosGetFresh known first_seed old xs seed) (append-nil (take (length old) new) ∙ take_all (length old) new (omega arith)) (f.front [] seed last)

-- the same, whatever IDs the set had first; and the seed is an ID, or the first seed
pub record GivenTo (first_taken : List ℕ) (first_seed : ℕ) (old taken : List ℕ) (seed : ℕ) (new : List ℕ) (index : ℕ) : Type 0 where
  pub most : seed ≤ greatest_id
  pub filled : (known : List ℕ) → HasIds first_taken known → FilledTo known first_seed old taken seed new index

pub given_stays : (first_taken : List ℕ) (first_seed : ℕ) (old taken : List ℕ) (seed : ℕ) (new : List ℕ) (index : ℕ) → index < length old → length new ≡ length old → get_or new index 0 ≢ 0
    → GivenTo first_taken first_seed old taken seed new index → GivenTo first_taken first_seed old taken seed new (index + 1)
given_stays first_taken first_seed old taken seed new index inside long some g = record {
  most = g.most;
  filled = λ known has. subst (FilledTo known first_seed old taken seed new) (omega arith) (filled_stays known first_seed old taken seed new index inside long some (g.filled known has));
}

pub given_fresh : (first_taken : List ℕ) (first_seed : ℕ) (old taken more : List ℕ) (seed : ℕ) (new : List ℕ) (index one : ℕ) → index < length old → length new ≡ length old → get_or new index 0 ≡ 0
    → ((ids : List ℕ) → HasIds taken ids → IsFresh ids seed one) → one ≤ greatest_id → AddsNumber taken more one → GivenTo first_taken first_seed old taken seed new index → GivenTo first_taken first_seed old more one (set new index one) (index + 1)
given_fresh first_taken first_seed old taken more seed new index one inside long none fresh most adds g = record {
  most = most;
  filled = λ known has. subst (FilledTo known first_seed old more one (set new index one)) (omega arith) (filled_fresh known first_seed old taken more seed new index one inside long none fresh adds (g.filled known has));
}

pub given_all : (first_taken : List ℕ) (first_seed : ℕ) (old taken : List ℕ) (seed : ℕ) (new : List ℕ) (index : ℕ) → index ≡ length old → length new ≡ length old → GivenTo first_taken first_seed old taken seed new index
    → (known : List ℕ) → HasIds first_taken known → ZerosGetFresh known first_seed old new seed
given_all first_taken first_seed old taken seed new index all long g known has = filled_all known first_seed old taken seed new long (subst (FilledTo known first_seed old taken seed new) all (g.filled known has))
