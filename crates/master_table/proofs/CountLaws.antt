-- How many slots are empty.
use Rattle.std.proofs.Common.{◌≡◌, ◌≢◌, ℕ, ◌+◌, ◌<◌, ◌≤◌, Bool, true, false, cond, List, [], ◌∷◌, ◌++◌, Option, Some, None, refl, sym, ap, ◌∙◌, arith, length-take}
use Rattle.std.specs.Prelude.{◌==◌, count_by, sum_by, is_some, IfSome, IfNone}
use Rattle.std.proofs.lemmas.Bool.{eq-eqb}
use Rattle.std.proofs.lemmas.Bool.Decides.{nat_tests}
use Rattle.std.proofs.lemmas.List.Sums.{sum_by_push, sum_by-append, sum_by-cons, count_by-le-length}
use Rattle.heap_model.specs.Bytes.{u32_at}
use Rattle.heap_model.specs.Slots.{slots_of, slots_total, first_slots, StandsBehind}
use Rattle.heap_model.specs.Placed.{EveryOne}
use Rattle.heap_model.specs.Space.{free_slots}
use Rattle.laws_heap.proofs.Slots.{first_slots-more, first_slots-all, number_stands}
use Rattle.master_table.specs.declared.table.EmptySlot.{EmptySlot}
use Rattle.master_table.specs.Table.{IsEmptyAt, IsUsedAt, UsedBefore, empty_before}

-- 1 for an empty slot, 0 for one in use
abbrev empty_of : List ℕ → ℕ → ℕ
empty_of image slot = cond (u32_at image slot == 0) 1 0

empty_one : (image : List ℕ) (slot : ℕ) → u32_at image slot ≡ 0 → empty_of image slot ≡ 1
empty_one image slot z = ap (λ (t : Bool). cond t 1 0) (eq-eqb (u32_at image slot) 0 z)

used_none : (image : List ℕ) (slot : ℕ) → u32_at image slot ≢ 0 → empty_of image slot ≡ 0
used_none image slot used = let b : (u32_at image slot == 0) ≡ false = grind (arith, nat_tests) in ap (λ (t : Bool). cond t 1 0) b

one_more : (image : List ℕ) (slot k : ℕ) → StandsBehind image slot k → empty_before image (k + 1) ≡ empty_before image k + empty_of image slot
one_more image slot k s = ap (count_by (λ slot. u32_at image slot == 0)) (first_slots-more image slot k s) ∙ sum_by_push (empty_of image) (first_slots image k) slot

pub empty_more : (image : List ℕ) (slot k count : ℕ) → StandsBehind image slot k → count ≡ empty_before image k → u32_at image slot ≡ 0 → count + 1 ≡ empty_before image (k + 1)
empty_more image slot k count s e z = let more = one_more image slot k s in let one = empty_one image slot z in omega arith

pub empty_same : (image : List ℕ) (slot k count : ℕ) → StandsBehind image slot k → count ≡ empty_before image k → u32_at image slot ≢ 0 → count ≡ empty_before image (k + 1)
empty_same image slot k count s e used = let more = one_more image slot k s in let none = used_none image slot used in omega arith

pub empty_all : (image : List ℕ) (k : ℕ) → slots_total image ≤ k → empty_before image k ≡ free_slots image
empty_all image k most = ap (count_by (λ slot. u32_at image slot == 0)) (first_slots-all image k most)

-- none is empty if all are used
none_empty : (image : List ℕ) (slots : List ℕ) → EveryOne (λ slot. u32_at image slot ≢ 0) slots → count_by (λ slot. u32_at image slot == 0) slots ≡ 0
none_empty image [] used = refl
none_empty image (slot ∷ slots) used =
    let first = sum_by-cons (empty_of image) slot slots in
    let here = used_none image slot used.0 in
    let rest = none_empty image slots used.1 in
    omega arith

pub none_free : (image : List ℕ) (k : ℕ) → slots_total image ≤ k → UsedBefore image k → free_slots image ≡ 0
none_free image k most used = sym (empty_all image k most) ∙ none_empty image (first_slots image k) used

-- an empty slot is free
pub some_free : (image : List ℕ) (slot k : ℕ) → StandsBehind image slot k → u32_at image slot ≡ 0 → free_slots image ≢ 0
some_free image slot k s empty none =
    let one = empty_one image slot empty in
    let sums = sum_by-append (empty_of image) s.front (slot ∷ s.rest) in
    let here = sum_by-cons (empty_of image) slot s.rest in
    let whole : free_slots image ≡ sum_by (empty_of image) (s.front ++ slot ∷ s.rest) = ap (sum_by (empty_of image)) s.parts in
    omega arith

-- the count of those before one more, by whether an empty one was found there
pub counted_some : (image : List ℕ) (k count : ℕ) (found : Option EmptySlot) → IfSome found (IsEmptyAt image k) → is_some found ≡ true → count ≡ empty_before image k → count + 1 ≡ empty_before image (k + 1)
counted_some image k count None e is counted = absurd cc
counted_some image k count (Some free) e is counted = empty_more image free.name.0 k count e.stands counted e.empty

pub counted_none : (image : List ℕ) (k count : ℕ) (found : Option EmptySlot) → k < slots_total image → IfNone found (IsUsedAt image k) → is_some found ≡ false → count ≡ empty_before image k → count ≡ empty_before image (k + 1)
counted_none image k count None below used is counted = let s = number_stands image k below in empty_same image s.0 k count s.1 counted (used s.0 s.1)
counted_none image k count (Some free) below used is counted = absurd cc

-- no more than there are
pub empty_few : (image : List ℕ) (k : ℕ) → empty_before image k ≤ k
empty_few image k =
    let few = count_by-le-length (λ slot. u32_at image slot == 0) (first_slots image k) in
    let most = length-take k (slots_of image) in
    omega arith

pub none_before : (image : List ℕ) → empty_before image 0 ≡ 0
none_before image = refl
