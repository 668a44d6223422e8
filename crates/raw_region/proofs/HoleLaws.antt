-- Which bytes are lent: those of the lent parts, also once one more is lent or taken back.
use Rattle.std.proofs.Common.{◌≡◌, ℕ, ◌+◌, ◌<◌, ◌≤◌, Bool, true, false, List, [], ◌∷◌, length, refl, sym, ap, subst, ◌∙◌, arith, inl, inr}
use Rattle.std.specs.Prelude.{◌≢◌, ◌⊎◌, ◌||◌, ◌==◌, if◌then◌else◌, leb, ltb, Option, Some, None}
use Rattle.std.proofs.lemmas.Bool.{and_left, and_right, and_from, lt-leb, le-ltb, le-leb, lt-ltb, eq-eqb, ne_eqb, eqb-true}
use denote.RawPtr.{Ptr}
use Rattle.heap_model.specs.Memory.{Lent, EachLent, SomeLent, Misses, MissesOne, NoneBegins, AreBeside, AreApart, without}
use Rattle.raw_region.specs.Parts.{PartOut, IsPart, IsOut}
use Rattle.raw_region.specs.Holes.{is_offset_of, is_out, lent_at, LiesIn, KnowsLents, count_at}

pub among_not : (at n j : ℕ) → (j < at) ⊎ (at + n ≤ j) → is_offset_of at n j ≡ false
among_not at n j (inl before) = and_left (leb at j) (ltb j (at + n)) (lt-leb at j before)
among_not at n j (inr past) = and_right (leb at j) (ltb j (at + n)) (le-ltb j (at + n) past)

pub among_is : (at n j : ℕ) → at ≤ j → j < at + n → is_offset_of at n j ≡ true
among_is at n j low high = and_from (leb at j) (ltb j (at + n)) (le-leb at j low) (lt-ltb j (at + n) high)

misses_among : (at n : ℕ) (l : Lent) (j : ℕ) → MissesOne at n l → at ≤ j → j < at + n → is_offset_of l.at l.count j ≡ false
misses_among at n l j (inl before) low high = among_not l.at l.count j (inl (omega (arith, before, high)))
misses_among at n l j (inr past) low high = among_not l.at l.count j (inr (omega (arith, past, low)))

-- no byte of a part that misses what is lent is out
pub misses_out : (lents : List Lent) (at n j : ℕ) → Misses lents at n → at ≤ j → j < at + n → is_out lents j ≡ false
misses_out [] at n j m low high = refl
misses_out (l ∷ ls) at n j m low high = λ k. misses_among at n l j m.0 low high k || misses_out ls at n j m.1 low high k

-- ---- one more part is lent

pub new_elsewhere : (lents : List Lent) (p : Ptr) (at n j : ℕ) → (j < at) ⊎ (at + n ≤ j) → is_out lents j ≡ is_out (lent_at p at n ∷ lents) j
new_elsewhere lents p at n j away = λ k. sym (among_not at n j away) k || is_out lents j

pub new_there : (lents : List Lent) (p : Ptr) (at n j : ℕ) → at ≤ j → j < at + n → is_out (lent_at p at n ∷ lents) j ≡ true
new_there lents p at n j low high = λ k. among_is at n j low high k || is_out lents j

all_beside : (p : Ptr) (at n : ℕ) (lents : List Lent) → Misses lents at n → NoneBegins at lents → EachLent (AreBeside (lent_at p at n)) lents
all_beside p at n [] m none = tt
all_beside p at n (l ∷ ls) m none = (record { misses = m.0; differs = none.0 }, all_beside p at n ls m.1 none.1)

pub knows_more : (p : Ptr) (size : ℕ) (lents : List Lent) (at n : ℕ) → KnowsLents p size lents → at + n ≤ size → Misses lents at n → NoneBegins at lents → KnowsLents p size (lent_at p at n ∷ lents)
knows_more p size lents at n knows inside m none = ((record { inside = inside; there = refl }, knows.0), (all_beside p at n lents m none, knows.1))

-- ---- one is taken back

abbrev or_zero : Option ℕ → ℕ
or_zero None = 0
or_zero (Some n) = n

gone_by : (c : Bool) (l : Lent) (ls : List Lent) (at n j : ℕ) → (c ≡ true → l.at ≡ at) → (if c then Some l.count else count_at at ls) ≡ Some n → (j < at) ⊎ (at + n ≤ j)
    → (count_at at ls ≡ Some n → is_out ls j ≡ is_out (without at ls) j)
    → is_out (l ∷ ls) j ≡ is_out (if c then ls else l ∷ without at ls) j
gone_by true l ls at n j is count away rest =
    let here : l.at ≡ at = is refl in
    let many : l.count ≡ n = ap or_zero count in
    let in_it : is_offset_of l.at l.count j ≡ false = (λ k. is_offset_of (here k) (many k) j) ∙ among_not at n j away in
    λ k. in_it k || is_out ls j
gone_by false l ls at n j is count away rest = λ k. is_offset_of l.at l.count j || rest count k

pub gone_elsewhere : (lents : List Lent) (at n j : ℕ) → count_at at lents ≡ Some n → (j < at) ⊎ (at + n ≤ j) → is_out lents j ≡ is_out (without at lents) j
gone_elsewhere [] at n j count away = refl
gone_elsewhere (l ∷ ls) at n j count away = gone_by (l.at == at) l ls at n j (eqb-true l.at at) count away (λ e. gone_elsewhere ls at n j e away)

each_without_by : (P : Lent → Type 0) (c : Bool) (at : ℕ) (l : Lent) (ls : List Lent) → P l → EachLent P ls → EachLent P (without at ls) → EachLent P (if c then ls else l ∷ without at ls)
each_without_by P true at l ls first others rest = others
each_without_by P false at l ls first others rest = (first, rest)

pub each_without : (P : Lent → Type 0) (at : ℕ) (lents : List Lent) → EachLent P lents → EachLent P (without at lents)
each_without P at [] each = tt
each_without P at (l ∷ ls) each = each_without_by P (l.at == at) at l ls each.0 each.1 (each_without P at ls each.1)

apart_without_by : (c : Bool) (at : ℕ) (l : Lent) (ls : List Lent) → AreApart (l ∷ ls) → AreApart (without at ls) → AreApart (if c then ls else l ∷ without at ls)
apart_without_by true at l ls apart rest = apart.1
apart_without_by false at l ls apart rest = (each_without (AreBeside l) at ls apart.0, rest)

pub apart_without : (at : ℕ) (lents : List Lent) → AreApart lents → AreApart (without at lents)
apart_without at [] apart = tt
apart_without at (l ∷ ls) apart = apart_without_by (l.at == at) at l ls apart (apart_without at ls apart.1)

pub knows_without : (p : Ptr) (size at : ℕ) (lents : List Lent) → KnowsLents p size lents → KnowsLents p size (without at lents)
knows_without p size at lents knows = (each_without (LiesIn p size) at lents knows.0, apart_without at lents knows.1)

-- a lent part beside one that begins at an offset
differs_from : (at : ℕ) (part : PartOut) (l : Lent) (ls : List Lent) → EachLent (AreBeside l) ls → SomeLent (IsPart at part) ls → l.at ≢ at
differs_from at part l [] each some = absurd some
differs_from at part l (m ∷ ms) each (inl is) = λ e. each.0.differs (is.there ∙ sym e)
differs_from at part l (m ∷ ms) each (inr rest) = differs_from at part l ms each.1 rest

misses_from : (at : ℕ) (part : PartOut) (l : Lent) (ls : List Lent) → EachLent (AreBeside l) ls → SomeLent (IsPart at part) ls → MissesOne at (length part.bytes) l
misses_from at part l [] each some = absurd some
misses_from at part l (m ∷ ms) each (inl is) =
    let there = is.there in let many = is.count in
    elim each.0.misses [
      | inl before ↦ inr (omega (arith, there, before))
      | inr past ↦ inl (omega (arith, there, many, past))
    ]
misses_from at part l (m ∷ ms) each (inr rest) = misses_from at part l ms each.1 rest

-- the part that begins at an offset is as long as the one that is out
pub count_of : (lents : List Lent) (at : ℕ) (part : PartOut) → AreApart lents → IsOut lents at part → count_at at lents ≡ Some (length part.bytes)
count_of [] at part apart out = absurd out
count_of (l ∷ ls) at part apart (inl is) =
    (λ k. if eq-eqb l.at at is.there k then Some l.count else count_at at ls) ∙ (λ k. Some (sym is.count k))
count_of (l ∷ ls) at part apart (inr rest) =
    (λ k. if ne_eqb l.at at (differs_from at part l ls apart.0 rest) k then Some l.count else count_at at ls) ∙ count_of ls at part apart.1 rest

beside_misses : (at n : ℕ) (l : Lent) (ls : List Lent) → l.at ≡ at → n ≡ l.count → EachLent (AreBeside l) ls → Misses ls at n
beside_misses at n l [] there many each = tt
beside_misses at n l (m ∷ ms) there many each = (
  elim each.0.misses [
    | inl before ↦ inl (omega (arith, there, many, before))
    | inr past ↦ inr (omega (arith, there, past))
  ],
  beside_misses at n l ms there many each.1,
)

-- and misses the others
pub others_missed : (lents : List Lent) (at : ℕ) (part : PartOut) → AreApart lents → IsOut lents at part → Misses (without at lents) at (length part.bytes)
others_missed [] at part apart out = absurd out
others_missed (l ∷ ls) at part apart (inl is) =
    subst (λ (c : Bool). Misses (if c then ls else l ∷ without at ls) at (length part.bytes)) (sym (eq-eqb l.at at is.there))
    (beside_misses at (length part.bytes) l ls is.there is.count apart.0)
others_missed (l ∷ ls) at part apart (inr rest) =
    subst (λ (c : Bool). Misses (if c then ls else l ∷ without at ls) at (length part.bytes)) (sym (ne_eqb l.at at (differs_from at part l ls apart.0 rest)))
    (misses_from at part l ls apart.0 rest, others_missed ls at part apart.1 rest)

-- the part starts where the region's bytes at its offset are
pub start_of : (p : Ptr) (size : ℕ) (lents : List Lent) (at : ℕ) (part : PartOut) → EachLent (LiesIn p size) lents → IsOut lents at part
    → (part.start ≡ (lent_at p at 0).start) × (at + length part.bytes ≤ size)
start_of p size [] at part lie out = absurd out
start_of p size (l ∷ ls) at part lie (inl is) =
    let inside = lie.0.inside in let there = is.there in let many = is.count in
    (is.start ∙ lie.0.there ∙ (λ k. (lent_at p (there k) 0).start), omega (arith, inside, there, many))
start_of p size (l ∷ ls) at part lie (inr rest) = start_of p size ls at part lie.1 rest
