-- The IDs of the records of a written file are kept when it is read.
use Rattle.std.proofs.Common.{◌≡◌, ◌≢◌, ℕ, Bool, true, false, List, [], ◌∷◌, get_or, refl, sym, ap, ◌∙◌, arith, inl}
use Rattle.std.specs.Prelude.{◌==◌, ◌&&◌, not, All, ⊤}
use Rattle.std.proofs.lemmas.Bool.{eq-eqb, ne_eqb}
use Rattle.std.proofs.lemmas.List.Elements.{All-head, All-tail}
use Rattle.heap_model.specs.Lists.{times, Distinct}
use Rattle.heap_model.specs.Database.{DatabaseHeader}
use Rattle.heap_model.specs.UniqueIds.{seed_in, with_seed}
use Rattle.heap_model.specs.Files.{keeps_id, kept_ids, AreGiven, HaveIds}
use Rattle.laws_store.proofs.Times.{same-no, times-cons, Distinct-head, Distinct-tail}

-- after records of the earlier IDs, each of these is kept
abbrev AllKept : List ℕ → List ℕ → Type 0
AllKept earlier [] = ⊤
AllKept earlier (id ∷ ids) = (keeps_id earlier id ≡ true) × AllKept (id ∷ earlier) ids

given_are : (taken earlier : List ℕ) (seed : ℕ) (ids : List ℕ) → AllKept earlier ids
    → AreGiven taken earlier seed ids ids seed
given_are taken earlier seed [] all = refl
given_are taken earlier seed (id ∷ ids) all = inl (all.0, refl, given_are taken _ seed ids all.1)

keeps : (earlier : List ℕ) (id : ℕ) → id ≢ 0 → times id earlier ≡ 0 → keeps_id earlier id ≡ true
keeps earlier id some none =
    ap (λ (b : Bool). not b && (times id earlier == 0)) (ne_eqb id 0 some)
    ∙ ap (λ (b : Bool). not false && b) (eq-eqb (times id earlier) 0 none)

all_kept : (earlier ids : List ℕ) → All (λ id. id ≢ 0) ids → Distinct ids
    → All (λ id. times id earlier ≡ 0) ids → AllKept earlier ids
all_kept earlier [] some distinct new = tt
all_kept earlier (id ∷ ids) some distinct new = (
  keeps earlier id (All-head (λ i. i ≢ 0) id ids some)
      (All-head (λ i. times i earlier ≡ 0) id ids new),
  all_kept (id ∷ earlier) ids (All-tail (λ i. i ≢ 0) id ids some) (Distinct-tail id ids distinct)
      (λ k d below. (
      let cons = times-cons (get_or ids k d) id earlier in
      let other = same-no id (get_or ids k d) (Distinct-head id ids distinct k d below) in
      let old = All-tail (λ i. times i earlier ≡ 0) id ids new k d below in
      omega arith)),
)

none_earlier : (ids : List ℕ) → All (λ id. times id [] ≡ 0) ids
none_earlier ids k d below = refl

-- distinct IDs, none of which is 0, are the ones that are given, and the seed stays
pub ids_stay : (seed : ℕ) (ids : List ℕ) → All (λ id. id ≢ 0) ids → Distinct ids
    → HaveIds seed ids ids seed
ids_stay seed ids some distinct =
    given_are (kept_ids [] ids) [] seed ids (all_kept [] ids some distinct (none_earlier ids))

seed_back : (field : ℕ) → with_seed field (seed_in field) ≡ field
seed_back field = omega arith

with_field : DatabaseHeader → ℕ → DatabaseHeader
with_field header seed = record header { seed = seed }

pub header_stays : (header : DatabaseHeader)
    → header ≡ record header { seed = with_seed header.seed (seed_in header.seed) }
unfolding with_field
header_stays header = sym (ap (with_field header) (seed_back header.seed))
