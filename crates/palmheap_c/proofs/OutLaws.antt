-- The bytes that are out under a name stay out while others are taken out and put back.
use Rattle.palmheap_c.proofs.Words.{true, false, Bool, ◌≡◌, ◌≢◌, ℕ, ◌+◌, ◌≤◌, List, [], ◌∷◌, length, refl, sym, ap, subst, ◌∙◌, arith, inl, inr, cases_eq, eq-eqb, eqb-true, ne_eqb, nat_tests, ◌==◌, Option, Some, if◌then◌else◌, IsLent, Memory, Lent, SomeLent, without, chunks_of, is_fixed_name, area_start, place_of, place_under, Call, DoesInStore, Reply, Name, some_to, OnLoan, IsOutUnder, TakesOutOfStore, PutsBackInStore, PartOut}
use Rattle.std.specs.Prelude.{◌⊎◌}
use Rattle.heap_model.specs.Chunk.{Chunk, free, movable, fixed, need}
use Rattle.mem_manager.proofs.OutLaws.{call_places, out_stays}

-- ---- two names with one place

branch : (b : Bool) (at place : ℕ) (rest : Option ℕ) → (if b then Some at else rest) ≡ Some place
    → ((b ≡ true) × (at ≡ place)) ⊎ (rest ≡ Some place)
branch true at place rest is = inl (refl, cc)
branch false at place rest is = inr is

fixed_name : (at owner name : ℕ) → is_fixed_name at owner name ≡ true → at + 8 ≡ name
fixed_name at owner name is = grind (arith, nat_tests)

place_above : (at : ℕ) (chunks : List Chunk) (name place : ℕ)
    → place_under at chunks name ≡ Some place → at + 8 ≤ place
place_above at [] name place is = absurd cc
place_above at (free size ∷ chunks) name place is = let low =
    place_above (at + size) chunks name place is in omega (arith, low)
place_above at (movable bytes lock owner slot ∷ chunks) name place is = elim (branch (slot == name)
    (at + 8) place (place_under (at + need (length bytes)) chunks name) is) [
      | inl here ↦ (let same = here.1 in omega (arith, same))
      | inr later ↦ (let low = place_above (at + need (length bytes)) chunks name place later in
          omega (arith, low))
    ]
place_above at (fixed bytes owner ∷ chunks) name place is =
    elim (branch (is_fixed_name at owner name) (at + 8) place
    (place_under (at + need (length bytes)) chunks name) is) [
      | inl here ↦ (let same = here.1 in omega (arith, same))
      | inr later ↦ (let low = place_above (at + need (length bytes)) chunks name place later in
          omega (arith, low))
    ]

pub one_under : (at : ℕ) (chunks : List Chunk) (name other place : ℕ)
    → place_under at chunks name ≡ Some place → place_under at chunks other ≡ Some place
    → name ≡ other
one_under at [] name other place is too = absurd cc
one_under at (free size ∷ chunks) name other place is too =
    one_under (at + size) chunks name other place is too
one_under at (movable bytes lock owner slot ∷ chunks) name other place is too =
    elim (branch (slot == name) (at + 8) place rest_name is) [
      | inl here ↦ elim (branch (slot == other) (at + 8) place rest_other too) [
        | inl both ↦ sym (eqb-true slot name here.0) ∙ eqb-true slot other both.0
        | inr later ↦ (let same = here.1 in let low = place_above next chunks other place later in
            absurd (omega (arith, same, low)))
      ]
      | inr past ↦ elim (branch (slot == other) (at + 8) place rest_other too) [
        | inl here ↦ (let same = here.1 in let low = place_above next chunks name place past in
            absurd (omega (arith, same, low)))
        | inr later ↦ one_under next chunks name other place past later
      ]
    ]
  where
    next : ℕ
    next = at + need (length bytes)

    rest_name : Option ℕ
    rest_name = place_under next chunks name

    rest_other : Option ℕ
    rest_other = place_under next chunks other
one_under at (fixed bytes owner ∷ chunks) name other place is too =
    elim (branch (is_fixed_name at owner name) (at + 8) place rest_name is) [
      | inl here ↦ elim (branch (is_fixed_name at owner other) (at + 8) place rest_other too) [
        | inl both ↦ sym (fixed_name at owner name here.0) ∙ fixed_name at owner other both.0
        | inr later ↦ (let same = here.1 in let low = place_above next chunks other place later in
            absurd (omega (arith, same, low)))
      ]
      | inr past ↦ elim (branch (is_fixed_name at owner other) (at + 8) place rest_other too) [
        | inl here ↦ (let same = here.1 in let low = place_above next chunks name place past in
            absurd (omega (arith, same, low)))
        | inr later ↦ one_under next chunks name other place past later
      ]
    ]
  where
    next : ℕ
    next = at + need (length bytes)

    rest_name : Option ℕ
    rest_name = place_under next chunks name

    rest_other : Option ℕ
    rest_other = place_under next chunks other

-- ---- the lent parts but one

without_here : (lents : List Lent) (lent : Lent) (at : ℕ) → lent.at ≡ at
    → without at (lent ∷ lents) ≡ lents
without_here lents lent at same =
    ap (λ (c : Bool). if c then lents else lent ∷ without at lents) (eq-eqb lent.at at same)

without_later : (lents : List Lent) (lent : Lent) (at : ℕ) → lent.at ≢ at
    → without at (lent ∷ lents) ≡ lent ∷ without at lents
without_later lents lent at apart =
    ap (λ (c : Bool). if c then lents else lent ∷ without at lents) (ne_eqb lent.at at apart)

some_without : (P : Lent → Type 0) (at : ℕ) (lents : List Lent) → SomeLent P lents
    → ((lent : Lent) → P lent → lent.at ≢ at) → SomeLent P (without at lents)
some_without P at [] is apart = is
some_without P at (lent ∷ lents) is apart = elim is [
  | inl here ↦ subst (SomeLent P) (sym (without_later lents lent at (apart lent here))) (inl here)
  | inr later ↦ elim (cases_eq lent.at at) [
    | inl same ↦ subst (SomeLent P) (sym (without_here lents lent at same)) later
    | inr differs ↦ subst (SomeLent P) (sym (without_later lents lent at differs))
        (inr (some_without P at lents later apart))
  ]
]

-- ---- the bytes of a name

-- the lent part is those bytes
abbrev IsOf : Memory → ℕ → PartOut → Lent → Type 0
IsOf memory name part lent = (place_of memory.bytes name ≡ Some lent.at) × (part.start ≡ lent.start)
    × (length part.bytes ≡ lent.count)

is_lent : (memory : Memory) (name : ℕ) (part : PartOut) → IsOutUnder memory name part
    → IsLent memory name
is_lent memory name part out = some_to (IsOf memory name part)
    (λ lent. place_of memory.bytes name ≡ Some lent.at) memory.lents out (λ lent is. is.0)

-- while a call does its step
pub step_out : (old new : Memory) (call : Call) (reply : Reply) (name : ℕ) (part : PartOut)
    → DoesInStore old call reply new → IsOutUnder old name part → IsOutUnder new name part
step_out old new call reply name part does out =
    out_stays old new name part part out (ap (λ (m : Memory). m.lents) does.rest)
    (call_places old new does.loan name (is_lent old name part out)) refl refl

-- if others are taken out
pub takes_out : (old new : Memory) (taken : Name) (loan : OnLoan) (name : ℕ) (part : PartOut)
    → TakesOutOfStore old new taken loan → IsOutUnder old name part → IsOutUnder new name part
takes_out old new taken loan name part takes out = subst (SomeLent (IsOf new name part))
    (sym (ap (λ (m : Memory). m.lents) takes.rest)) (inr (some_to (IsOf old name part)
    (IsOf new name part) old.lents out (λ lent is. (takes.unmoved name ∙ is.0, is.1, is.2))))

-- if others are put back
pub puts_out : (old new : Memory) (loan : OnLoan) (name : ℕ) (part : PartOut) → name ≢ loan.name.0
    → PutsBackInStore old new loan → IsOutUnder old name part → IsOutUnder new name part
puts_out old new loan name part differs puts out =
    subst (SomeLent (IsOf new name part)) (sym (ap (λ (m : Memory). m.lents) puts.rest))
    (some_to (IsOf old name part) (IsOf new name part) (without puts.at old.lents) left
    (λ lent is. (puts.unmoved name ∙ is.0, is.1, is.2))) where
      apart : (lent : Lent) → IsOf old name part lent → lent.at ≢ puts.at
      apart lent is same = differs (one_under (area_start old.bytes) (chunks_of old.bytes) name
          loan.name.0 puts.at (is.0 ∙ ap (λ (n : ℕ). Some n) same) puts.placed)

      left : SomeLent (IsOf old name part) (without puts.at old.lents)
      left = some_without (IsOf old name part) puts.at old.lents out apart
