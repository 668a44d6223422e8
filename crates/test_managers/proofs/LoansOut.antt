-- Loans that are held together have all lent parts: one more once it is taken out, one less once it
-- is put back, and the same ones after a call.
use Rattle.std.proofs.Common.{◌≡◌, ◌≢◌, ℕ, zero, suc, ◌<◌, List, [], ◌∷◌, length, refl, sym, ap, subst, ◌∙◌, arith, inl, inr}
use Rattle.std.proofs.lemmas.Bool.{eq-eqb, ne_eqb}
use Rattle.std.specs.Prelude.{Bool, Option, Some, None, slice_index_or, if◌then◌else◌}
use Rattle.std.specs.List.{remove}
use Rattle.heap_model.specs.Memory.{Memory, Lent, SomeLent, NoneBegins, without}
use Rattle.heap_model.specs.Lending.{IsLent, KeepsLoan}
use Rattle.heap_model.specs.Maps.{callers_map}
use Rattle.heap_model.specs.Meaning.{LiveChunk}
use Rattle.heap_model.specs.MemorySteps.{Of}
use Rattle.heap_model.specs.Refusals.{NoneHolds}
use Rattle.heap_model.specs.Space.{place_of}
use Rattle.heap_model.specs.declared.names.Name.{Name}
use Rattle.laws_heap.proofs.LentBodies.{some_gives}
use Rattle.raw_region.proofs.HoleLaws.{each_without}
use Rattle.mem_manager.specs.Loans.{OnLoan, also_out_checks}
use Rattle.mem_manager.proofs.OutLaws.{call_places}
use Rattle.palm_store.specs.Loans.{TakesOutOfStore, PutsBackInStore}
use Rattle.test_managers.specs.Lenders.{AreAllOut}

same_place : {m n : ℕ} → Some m ≡ Some n → m ≡ n
same_place e = cc

-- ---- the loans stay

pub all_stay : (old new : Memory) (loans : List OnLoan) (lents : List Lent) → ((name : ℕ) → SomeLent (λ lent. place_of old.bytes name ≡ Some lent.at) lents → place_of new.bytes name ≡ place_of old.bytes name) → AreAllOut old loans lents → AreAllOut new loans lents
all_stay old new [] [] same all = tt
all_stay old new [] (lent ∷ lents) same all = absurd all
all_stay old new (loan ∷ loans) [] same all = absurd all
all_stay old new (loan ∷ loans) (lent ∷ lents) same all = (
  record { placed = same loan.name.0 (inl all.0.placed) ∙ all.0.placed; start = all.0.start; count = all.0.count; alone = all.0.alone },
  all_stay old new loans lents (λ name is. same name (inr is)) all.1,
)

pub all_called : (old new : Memory) (loans : List OnLoan) → new.lents ≡ old.lents → KeepsLoan old new → AreAllOut old loans old.lents → AreAllOut new loans new.lents
all_called old new loans same keeps all = subst (λ (lents : List Lent). AreAllOut new loans lents) (sym same) (all_stay old new loans old.lents (call_places old new keeps) all)

-- ---- one more is out

lent_passes : (old : Memory) (name : ℕ) → NoneHolds (also_out_checks old name) → IsLent old name → ⊥
lent_passes old name (known, (locked, (here, more))) is = by (callers_map old.bytes name) known here where
  by : (o : Option LiveChunk) → (o ≡ None → ⊥) → (Of o (λ live. IsLent old name) → ⊥) → ⊥
  by None some not = some refl
  by (Some live) some not = not is

none_here : (memory : Memory) (name at : ℕ) (lents : List Lent) → place_of memory.bytes name ≡ Some at → (SomeLent (λ lent. place_of memory.bytes name ≡ Some lent.at) lents → ⊥) → NoneBegins at lents
none_here memory name at [] placed not = tt
none_here memory name at (lent ∷ lents) placed not = (λ e. not (inl (placed ∙ ap (λ (n : ℕ). Some n) (sym e))), none_here memory name at lents placed (λ is. not (inr is)))

pub one_more : (old new : Memory) (name : Name) (loan : OnLoan) (loans : List OnLoan) → TakesOutOfStore old new name loan → AreAllOut old loans old.lents → AreAllOut new (loan ∷ loans) new.lents
one_more old new name loan loans takes all =
    subst (λ (lents : List Lent). AreAllOut new (loan ∷ loans) lents) (sym (ap (λ (m : Memory). m.lents) takes.rest)) (
      record {
        placed = subst (λ (n : Name). place_of new.bytes n.0 ≡ Some takes.at) (sym takes.name_is) takes.there;
        start = refl;
        count = refl;
        alone = none_here old name.0 takes.at old.lents takes.placed (lent_passes old name.0 takes.could);
      },
      all_stay old new loans old.lents (λ other is. takes.unmoved other) all,
    )

-- ---- one less is out

first_back : (lents : List Lent) (lent : Lent) (at : ℕ) → lent.at ≡ at → without at (lent ∷ lents) ≡ lents
first_back lents lent at same = ap (λ (c : Bool). if c then lents else lent ∷ without at lents) (eq-eqb lent.at at same)

later_back : (lents : List Lent) (lent : Lent) (at : ℕ) → lent.at ≢ at → without at (lent ∷ lents) ≡ lent ∷ without at lents
later_back lents lent at apart = ap (λ (c : Bool). if c then lents else lent ∷ without at lents) (ne_eqb lent.at at apart)

begins_at : (memory : Memory) (loans : List OnLoan) (lents : List Lent) (index : ℕ) (d : OnLoan) (at : ℕ) → index < length loans → place_of memory.bytes (slice_index_or loans index d).name.0 ≡ Some at → AreAllOut memory loans lents → SomeLent (λ lent. lent.at ≡ at) lents
begins_at memory [] lents index d at less placed all = absurd (omega arith)
begins_at memory (loan ∷ loans) [] index d at less placed all = absurd all
begins_at memory (loan ∷ loans) (lent ∷ lents) zero d at less placed all = inl (same_place (sym all.0.placed ∙ placed))
begins_at memory (loan ∷ loans) (lent ∷ lents) (suc index) d at less placed all = inr (begins_at memory loans lents index d at (omega arith) placed all.1)

all_left : (memory : Memory) (loans : List OnLoan) (lents : List Lent) (index : ℕ) (d : OnLoan) (at : ℕ) → index < length loans → place_of memory.bytes (slice_index_or loans index d).name.0 ≡ Some at → AreAllOut memory loans lents → AreAllOut memory (remove loans index) (without at lents)
all_left memory [] lents index d at less placed all = absurd (omega arith)
all_left memory (loan ∷ loans) [] index d at less placed all = absurd all
all_left memory (loan ∷ loans) (lent ∷ lents) zero d at less placed all =
    subst (λ (left : List Lent). AreAllOut memory loans left) (sym (first_back lents lent at (same_place (sym all.0.placed ∙ placed)))) all.1
all_left memory (loan ∷ loans) (lent ∷ lents) (suc index) d at less placed all =
    let below : index < length loans = omega (arith, less) in
    let apart : lent.at ≢ at = λ same. some_gives (λ y. y.at ≡ at) (λ y. y.at ≢ lent.at) lents all.0.alone (begins_at memory loans lents index d at below placed all.1) (λ y differs is. differs (is ∙ sym same)) in
    subst (λ (left : List Lent). AreAllOut memory (loan ∷ remove loans index) left) (sym (later_back lents lent at apart)) (
      record { placed = all.0.placed; start = all.0.start; count = all.0.count; alone = each_without (λ y. y.at ≢ lent.at) at lents all.0.alone },
      all_left memory loans lents index d at below placed all.1,
    )

pub one_less : (old new : Memory) (loans : List OnLoan) (index : ℕ) (d loan : OnLoan) → index < length loans → loan.name ≡ (slice_index_or loans index d).name → PutsBackInStore old new loan → AreAllOut old loans old.lents → AreAllOut new (remove loans index) new.lents
one_less old new loans index d loan less named back all =
    let placed = subst (λ (n : Name). place_of old.bytes n.0 ≡ Some back.at) named back.placed in
    subst (λ (lents : List Lent). AreAllOut new (remove loans index) lents) (sym (ap (λ (m : Memory). m.lents) back.rest))
    (all_stay old new (remove loans index) (without back.at old.lents) (λ other is. back.unmoved other) (all_left old loans old.lents index d back.at less placed all))

-- the loan at an index is out, and may have other bytes, but as many
pub out_at : (memory : Memory) (loans : List OnLoan) (lents : List Lent) (index : ℕ) (d loan : OnLoan) → index < length loans → loan.name ≡ (slice_index_or loans index d).name → loan.part.start ≡ (slice_index_or loans index d).part.start → length loan.part.bytes ≡ length (slice_index_or loans index d).part.bytes → AreAllOut memory loans lents
    → SomeLent (λ lent. (place_of memory.bytes loan.name.0 ≡ Some lent.at) × (loan.part.start ≡ lent.start) × (length loan.part.bytes ≡ lent.count)) lents
out_at memory [] lents index d loan less named start long all = absurd (omega arith)
out_at memory (first ∷ loans) [] index d loan less named start long all = absurd all
out_at memory (first ∷ loans) (lent ∷ lents) zero d loan less named start long all =
    inl (subst (λ (n : Name). place_of memory.bytes n.0 ≡ Some lent.at) (sym named) all.0.placed, start ∙ all.0.start, long ∙ all.0.count)
out_at memory (first ∷ loans) (lent ∷ lents) (suc index) d loan less named start long all = inr (out_at memory loans lents index d loan (omega arith) named start long all.1)

-- if no loan is held, nothing is lent
pub none_out : (memory : Memory) (lents : List Lent) → AreAllOut memory [] lents → lents ≡ []
none_out memory [] all = refl
none_out memory (lent ∷ lents) all = absurd all
