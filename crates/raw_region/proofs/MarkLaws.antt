-- What the marks of lent parts say, also once one more is lent or taken back.
use Rattle.std.proofs.Common.{◌≡◌, ℕ, zero, suc, ◌+◌, ◌-◌, ◌*◌, ◌/◌, ◌%◌, ◌<◌, ◌≤◌, Bool, true, false, List, [], ◌∷◌, length, refl, sym, subst, ◌∙◌, arith, inl, inr, ap}
use Rattle.std.specs.Prelude.{◌≢◌, ◌⊎◌, ◌↔◌, ◌==◌, if◌then◌else◌}
use Rattle.std.proofs.lemmas.Bool.{cases_eq, cases_lt, eqb-true, eqb-false}
use Rattle.std.proofs.lemmas.List.{get_or_past}
use Rattle.std.proofs.lemmas.Nat.Bits.{bit_at-zero}
use Rattle.std.specs.Int.{bit_at}
use denote.RawPtr.{Ptr}
use Rattle.bit_sets.specs.Sets.{IsInSet, HasNone, AddsNumber, RemovesNumber, HasNoneBetween, HasNoneFrom, IsLeastFrom}
use Rattle.heap_model.specs.Memory.{Lent, EachLent, AreBeside, AreApart, without}
use Rattle.raw_region.specs.Parts.{PartOut, IsOut}
use Rattle.raw_region.specs.Holes.{LiesIn, KnowsLents}
use Rattle.raw_region.specs.Marks.{BeginsAt, IsMarkable, KnowsMarks, IsNextLent, NoneBeginsAbove}
use Rattle.raw_region.proofs.HoleLaws.{each_without, apart_without}

zero-ne-one : (zero ≡ suc zero) → ⊥
zero-ne-one e = omega (arith, e)

-- a number of the set has a byte that was written
pub in_set_inside : (set : List ℕ) (number : ℕ) → IsInSet set number → number / 8 < length set
in_set_inside set number has = elim (cases_lt (number / 8) (length set)) [
  | inl inside ↦ inside
  | inr past ↦ absurd (zero-ne-one (sym (ap (λ (b : ℕ). bit_at b (number % 8)) (get_or_past set (number / 8) 0 past) ∙ bit_at-zero (number % 8)) ∙ has))
]

-- ---- where none is lent

pub none_marked : (marks : List ℕ) (size : ℕ) → HasNone marks → length marks ≤ size / 64 + 1 → KnowsMarks marks size 0 []
none_marked marks size none few_marks = record { few = few_marks; bits = λ unit. (λ has. none unit has, λ begins. absurd begins); even = tt; many = refl }

-- ---- one more

pub marks_more : (old new : List ℕ) (size count : ℕ) (lents : List Lent) (lent : Lent) → KnowsMarks old size count lents → length new ≤ size / 64 + 1 → IsMarkable lent.at → AddsNumber old new (lent.at / 8) → KnowsMarks new size (count + 1) (lent ∷ lents)
marks_more old new size count lents lent k few_new ok a = record {
  few = few_new;
  bits = bits;
  even = (ok, k.even);
  many = let m = k.many in omega (arith, m);
} where
  bits : (unit : ℕ) → (IsInSet new unit ↔ BeginsAt (8 * unit) (lent ∷ lents))
  bits unit = elim (cases_eq unit (lent.at / 8)) [
    | inl same ↦
        let even = ok.1 in
        let at : lent.at ≡ 8 * unit = omega (arith, same, even) in
        (λ has. inl at, λ begins. subst (λ (u : ℕ). IsInSet new u) (sym same) a.here)
    | inr other ↦ (
      λ has. inr ((k.bits unit).0 ((a.others unit other).0 has)),
      λ begins. elim begins [
        | inl at ↦ absurd (other (omega (arith, at)))
        | inr rest ↦ (a.others unit other).1 ((k.bits unit).1 rest)
      ],
    )
  ]

-- ---- one taken back

begins_without_by : (c : Bool) (at there : ℕ) (l : Lent) (ls : List Lent) → (c ≡ true → l.at ≡ at) → (c ≡ false → l.at ≢ at) → there ≢ at → (BeginsAt there ls ↔ BeginsAt there (without at ls))
    → (BeginsAt there (l ∷ ls) ↔ BeginsAt there (if c then ls else l ∷ without at ls))
begins_without_by true at there l ls is isnt other rest = (λ begins. elim begins [ inl e ↦ absurd (other (sym e ∙ is refl)) | inr r ↦ r ], λ r. inr r)
begins_without_by false at there l ls is isnt other rest = (λ begins. elim begins [ inl e ↦ inl e | inr r ↦ inr (rest.0 r) ], λ begins. elim begins [ inl e ↦ inl e | inr r ↦ inr (rest.1 r) ])

-- those that begin elsewhere
begins_without : (at there : ℕ) (lents : List Lent) → there ≢ at → (BeginsAt there lents ↔ BeginsAt there (without at lents))
begins_without at there [] other = (λ b. b, λ b. b)
begins_without at there (l ∷ ls) other = begins_without_by (l.at == at) at there l ls (eqb-true l.at at) (eqb-false l.at at) other (begins_without at there ls other)

begins_none : (at : ℕ) (l : Lent) (ls : List Lent) → l.at ≡ at → EachLent (AreBeside l) ls → BeginsAt at ls → ⊥
begins_none at l [] here each begins = begins
begins_none at l (m ∷ ms) here each (inl e) = each.0.differs (e ∙ sym here)
begins_none at l (m ∷ ms) here each (inr r) = begins_none at l ms here each.1 r

-- none begins where one was taken back
gone_by : (c : Bool) (at : ℕ) (l : Lent) (ls : List Lent) → (c ≡ true → l.at ≡ at) → (c ≡ false → l.at ≢ at) → AreApart (l ∷ ls) → (AreApart ls → BeginsAt at (without at ls) → ⊥) → BeginsAt at (if c then ls else l ∷ without at ls) → ⊥
gone_by true at l ls is isnt apart rest begins = begins_none at l ls (is refl) apart.0 begins
gone_by false at l ls is isnt apart rest begins = elim begins [ inl e ↦ isnt refl e | inr r ↦ rest apart.1 r ]

gone : (at : ℕ) (lents : List Lent) → AreApart lents → BeginsAt at (without at lents) → ⊥
gone at [] apart begins = begins
gone at (l ∷ ls) apart begins = gone_by (l.at == at) at l ls (eqb-true l.at at) (eqb-false l.at at) apart (gone at ls) begins

length_without_by : (c : Bool) (at : ℕ) (l : Lent) (ls : List Lent) → (c ≡ false → l.at ≢ at) → BeginsAt at (l ∷ ls) → (BeginsAt at ls → length (without at ls) + 1 ≡ length ls) → length (if c then ls else l ∷ without at ls) + 1 ≡ length (l ∷ ls)
length_without_by true at l ls isnt begins rest = omega arith
length_without_by false at l ls isnt (inl e) rest = absurd (isnt refl e)
length_without_by false at l ls isnt (inr r) rest = let more = rest r in omega (arith, more)

length_without : (at : ℕ) (lents : List Lent) → BeginsAt at lents → length (without at lents) + 1 ≡ length lents
length_without at [] begins = absurd begins
length_without at (l ∷ ls) begins = length_without_by (l.at == at) at l ls (eqb-false l.at at) begins (length_without at ls)

pub out_begins : (lents : List Lent) (at : ℕ) (part : PartOut) → IsOut lents at part → BeginsAt at lents
out_begins [] at part out = absurd out
out_begins (l ∷ ls) at part (inl is) = inl is.there
out_begins (l ∷ ls) at part (inr rest) = inr (out_begins ls at part rest)

pub even_at : (lents : List Lent) (at : ℕ) → EachLent (λ lent. IsMarkable lent.at) lents → BeginsAt at lents → IsMarkable at
even_at [] at each begins = absurd begins
even_at (l ∷ ls) at each (inl e) = subst IsMarkable e each.0
even_at (l ∷ ls) at each (inr r) = even_at ls at each.1 r

pub begins_inside : (p : Ptr) (size at : ℕ) (lents : List Lent) → EachLent (LiesIn p size) lents → BeginsAt at lents → at ≤ size
begins_inside p size at [] each begins = absurd begins
begins_inside p size at (l ∷ ls) each (inl e) = let inside = each.0.inside in omega (arith, inside, e)
begins_inside p size at (l ∷ ls) each (inr r) = begins_inside p size at ls each.1 r

pub marks_fewer : (old new : List ℕ) (size count at : ℕ) (lents : List Lent) → KnowsMarks old size count lents → AreApart lents → BeginsAt at lents → length new ≡ length old → RemovesNumber old new (at / 8) → KnowsMarks new size (count - 1) (without at lents)
marks_fewer old new size count at lents k apart begins long r = record {
  few = let m = k.few in omega (arith, m, long);
  bits = bits;
  even = each_without (λ lent. IsMarkable lent.at) at lents k.even;
  many = let m = k.many in let fewer = length_without at lents begins in omega (arith, m, fewer);
} where
  even : at % 8 ≡ 0
  even = (even_at lents at k.even begins).1

  bits : (unit : ℕ) → (IsInSet new unit ↔ BeginsAt (8 * unit) (without at lents))
  bits unit = elim (cases_eq unit (at / 8)) [
    | inl same ↦
        let here : 8 * unit ≡ at = omega (arith, same, even) in
        (λ has. absurd (r.gone (subst (λ (u : ℕ). IsInSet new u) same has)), λ some. absurd (gone at lents apart (subst (λ (n : ℕ). BeginsAt n (without at lents)) here some)))
    | inr other ↦
        let away : 8 * unit ≢ at = λ e. other (omega (arith, e)) in
        let b = begins_without at (8 * unit) lents away in
        (λ has. b.0 ((k.bits unit).0 ((r.others unit other).0 has)), λ some. (r.others unit other).1 ((k.bits unit).1 (b.1 some)))
  ]

-- ---- how many they are

below_by : (n : ℕ) (l : Lent) → l.at < suc n → l.at ≢ n → l.at < n
below_by n l less other = elim (cases_eq l.at n) [ inl e ↦ absurd (other e) | inr k ↦ le_and l.at n less k ] where
  le_and : (a b : ℕ) → a < suc b → a ≢ b → a < b
  le_and a b less k = elim (cases_lt a b) [ inl lower ↦ lower | inr high ↦ absurd (k (omega (arith, less, high))) ]

none_there : (n : ℕ) (lents : List Lent) → EachLent (λ l. l.at < suc n) lents → (BeginsAt n lents → ⊥) → EachLent (λ l. l.at < n) lents
none_there n [] each none = tt
none_there n (l ∷ ls) each none = (below_by n l each.0 (λ e. none (inl e)), none_there n ls each.1 (λ r. none (inr r)))

none_below : (lents : List Lent) → EachLent (λ l. l.at < 0) lents → length lents ≡ 0
none_below [] each = refl
none_below (l ∷ ls) each = let bad = each.0 in absurd (omega (arith, bad))

longer_by : (c : Bool) (at : ℕ) (l : Lent) (ls : List Lent) → length ls ≤ length (without at ls) + 1 → length (l ∷ ls) ≤ length (if c then ls else l ∷ without at ls) + 1
longer_by true at l ls rest = omega arith
longer_by false at l ls rest = omega (arith, rest)

longer : (at : ℕ) (lents : List Lent) → length lents ≤ length (without at lents) + 1
longer at [] = omega arith
longer at (l ∷ ls) = longer_by (l.at == at) at l ls (longer at ls)

-- parts that begin at different offsets below n are n at most
few : (n : ℕ) (lents : List Lent) → EachLent (λ l. l.at < n) lents → AreApart lents → length lents ≤ n
few zero lents each apart = let none = none_below lents each in omega (arith, none)
few (suc n) lents each apart =
    let fewer = few n (without n lents) (none_there n (without n lents) (each_without (λ l. l.at < suc n) n lents each) (gone n lents apart)) (apart_without n lents apart) in
    let one = longer n lents in
    omega (arith, fewer, one)

all_below : (p : Ptr) (size : ℕ) (lents : List Lent) → EachLent (LiesIn p size) lents → EachLent (λ l. l.at < suc size) lents
all_below p size [] each = tt
all_below p size (l ∷ ls) each = let inside = each.0.inside in (omega (arith, inside), all_below p size ls each.1)

pub few_lent : (p : Ptr) (size : ℕ) (lents : List Lent) → KnowsLents p size lents → length lents ≤ size + 1
few_lent p size lents knows = let l = few (suc size) lents (all_below p size lents knows.0) knows.1 in omega (arith, l)

-- ---- the next one

each_other : (marks : List ℕ) (after next : ℕ) (all lents : List Lent) → ((unit : ℕ) → (IsInSet marks unit ↔ BeginsAt (8 * unit) all)) → HasNoneBetween marks (after / 8 + 1) next → EachLent (λ lent. IsMarkable lent.at) lents → ((at : ℕ) → BeginsAt at lents → BeginsAt at all)
    → EachLent (λ lent. (lent.at ≤ after) ⊎ (8 * next ≤ lent.at)) lents
each_other marks after next all [] bits none even within = tt
each_other marks after next all (l ∷ ls) bits none even within = (
  elim (cases_lt after l.at) [
    | inl above ↦ elim (cases_lt (l.at / 8) next) [
      | inl low ↦
          let whole = even.0.1 in
          let at : l.at ≡ 8 * (l.at / 8) = omega (arith, whole) in
          absurd (none (l.at / 8) (omega (arith, above, whole)) low ((bits (l.at / 8)).1 (within (8 * (l.at / 8)) (inl at))))
      | inr high ↦ inr (omega (arith, high))
    ]
    | inr not_above ↦ inl not_above
  ],
  each_other marks after next all ls bits none even.1 (λ at b. within at (inr b)),
)

-- the first bit above an offset is that of the next lent part
pub next_marked : (marks : List ℕ) (size count after unit : ℕ) (lents : List Lent) → KnowsMarks marks size count lents → IsLeastFrom marks (after / 8 + 1) unit → IsNextLent lents after (8 * unit)
next_marked marks size count after unit lents k first = record {
  above = let least = first.least in omega (arith, least);
  begins = (k.bits unit).0 first.here;
  none_before = each_other marks after unit lents lents k.bits first.none_before k.even (λ at b. b);
}

each_above : (marks : List ℕ) (after : ℕ) (all lents : List Lent) → ((unit : ℕ) → (IsInSet marks unit ↔ BeginsAt (8 * unit) all)) → HasNoneFrom marks (after / 8 + 1) → EachLent (λ lent. IsMarkable lent.at) lents → ((at : ℕ) → BeginsAt at lents → BeginsAt at all)
    → NoneBeginsAbove after lents
each_above marks after all [] bits none even within = tt
each_above marks after all (l ∷ ls) bits none even within = (
  elim (cases_lt after l.at) [
    | inl above ↦
        let whole = even.0.1 in
        let at : l.at ≡ 8 * (l.at / 8) = omega (arith, whole) in
        absurd (none (l.at / 8) (omega (arith, above, whole)) ((bits (l.at / 8)).1 (within (8 * (l.at / 8)) (inl at))))
    | inr not_above ↦ not_above
  ],
  each_above marks after all ls bits none even.1 (λ at b. within at (inr b)),
)

pub none_marked_above : (marks : List ℕ) (size count after : ℕ) (lents : List Lent) → KnowsMarks marks size count lents → HasNoneFrom marks (after / 8 + 1) → NoneBeginsAbove after lents
none_marked_above marks size count after lents k none = each_above marks after lents lents k.bits none k.even (λ at b. b)
