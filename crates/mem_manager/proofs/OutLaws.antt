-- What is out of a heap stays out while its chunk keeps its place and no loan is made or put back.
-- Once it is back, what is lent is what was lent before.
use Rattle.mem_manager.proofs.Words.{◌≡◌, ℕ, Bool, List, ◌∷◌, length, refl, sym, ap, subst, ◌∙◌, inr, eq-eqb, if◌then◌else◌, Memory, Lent, SomeLent, without, IsLent, KeepsLoan, held, place_of, Name, lent_as, some_to, PartOut, OnLoan, IsOutUnder, TakesOut, PutsBack, same_lents}
use Rattle.std.specs.Prelude.{Some}
use denote.RawPtr.{Ptr}

-- The part that is put back may have other bytes, but as many.
pub out_stays : (old new : Memory) (name : ℕ) (part other : PartOut) → IsOutUnder old name part
    → new.lents ≡ old.lents → place_of new.bytes name ≡ place_of old.bytes name
    → other.start ≡ part.start → length other.bytes ≡ length part.bytes → IsOutUnder new name other
out_stays old new name part other out same placed start long =
    subst (λ (lents : List Lent). SomeLent now lents) (sym same)
    (some_to was now old.lents out (λ lent is. (placed ∙ is.0, start ∙ is.1, long ∙ is.2))) where
      was : Lent → Type 0
      was lent = (place_of old.bytes name ≡ Some lent.at) × (part.start ≡ lent.start) × (length part.bytes ≡ lent.count)

      now : Lent → Type 0
      now lent = (place_of new.bytes name ≡ Some lent.at) × (other.start ≡ lent.start) × (length other.bytes ≡ lent.count)

-- without the newest of some lent parts the others are left
first_back : (lents : List Lent) (lent : Lent) {at : ℕ} → lent.at ≡ at
    → without at (lent ∷ lents) ≡ lents
first_back lents lent {at} same =
    ap (λ (c : Bool). if c then lents else lent ∷ without at lents) (eq-eqb lent.at at same)

one_place : {m n : ℕ} → Some m ≡ Some n → m ≡ n
one_place e = cc

-- The bytes under a name are taken out of `old`, and are put back at the place of the same name.
pub back_restores : (old out done new : Memory) (name at count back : ℕ) (start : Ptr) → out.lents ≡ record { at = at; count = count; start = start } ∷ old.lents → place_of out.bytes name ≡ Some at → done.lents ≡ out.lents → place_of done.bytes name ≡ place_of out.bytes name
    → place_of done.bytes name ≡ Some back → new.lents ≡ without back done.lents
    → new.lents ≡ old.lents
back_restores old out done new name at count back start taken there same still placed left =
    left ∙ ap (without back) (same ∙ taken) ∙ first_back old.lents (record { at = at; count = count; start = start }) (one_place (sym there ∙ sym still ∙ placed))

-- The loan's part is out still after calls that keep it. It may have other bytes, but as many.
pub still_out : (old out done : Memory) (name : Name) (loan other : OnLoan)
    → TakesOut old out name loan → done.lents ≡ out.lents → KeepsLoan out done
    → other.name ≡ loan.name → other.part.start ≡ loan.part.start
    → length other.part.bytes ≡ length loan.part.bytes → IsOutUnder done other.name.0 other.part
still_out old out done name loan other takes same keeps named start long =
    subst (λ (n : Name). IsOutUnder done n.0 other.part) (sym (named ∙ takes.name_is)) (out_stays out done name.0 loan.part other.part takes.out same (keeps name.0 (length loan.part.bytes) takes.is_lent).1 start long)

-- Once it is back after these calls, what is lent is what was lent before it was taken out.
pub all_back : (old out done new : Memory) (name : Name) (loan other : OnLoan)
    → TakesOut old out name loan → done.lents ≡ out.lents → KeepsLoan out done
    → other.name ≡ loan.name → PutsBack done new other → new.lents ≡ old.lents
all_back old out done new name loan other takes same keeps named back =
    let placed = rw (named ∙ takes.name_is) at back.placed in
    back_restores old out done new name.0 takes.at (length loan.part.bytes) back.at loan.part.start (same_lents takes.rest) takes.there same (keeps name.0 (length loan.part.bytes) takes.is_lent).1 placed (same_lents back.rest)

-- ---- any number of loans

-- each name that is lent keeps its place
abbrev pub KeepsPlaces : Memory → Memory → Type 0
KeepsPlaces old new =
    (name : ℕ) → IsLent old name → place_of new.bytes name ≡ place_of old.bytes name

pub call_places : (old new : Memory) → KeepsLoan old new → KeepsPlaces old new
call_places old new keeps name is =
    let counted = lent_as old name is (held old.bytes name) refl in
    (keeps name counted.0 counted.1).1

-- one is taken out before calls, and put back after them
pub places_after : (old out done new : Memory) (lent : Lent) → out.lents ≡ lent ∷ old.lents
    → ((name : ℕ) → place_of out.bytes name ≡ place_of old.bytes name) → KeepsPlaces out done
    → ((name : ℕ) → place_of new.bytes name ≡ place_of done.bytes name) → KeepsPlaces old new
places_after old out done new lent more first kept last name is =
    last name
    ∙ kept name (subst (λ (lents : List Lent). SomeLent (λ y. place_of out.bytes name ≡ Some y.at) lents) (sym more) (inr (some_to (λ y. place_of old.bytes name ≡ Some y.at) (λ y. place_of out.bytes name ≡ Some y.at) old.lents is (λ y e. first name ∙ e))))
    ∙ first name
