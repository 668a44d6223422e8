-- Slots by their numbers, and which of them are in use before and after a change.
use Rattle.std.proofs.Common.{◌≡◌, ◌≢◌, ℕ, ◌+◌, ◌<◌, ◌≤◌, List, ◌++◌, take, sym, ap, subst, ◌∙◌, arith}
use Rattle.std.proofs.lemmas.List.{take-append-le}
use Rattle.heap_model.specs.Bytes.{u32_at}
use Rattle.heap_model.specs.Slots.{IsSlot, slots_of, slots_total, first_slots, StandsBehind}
use Rattle.heap_model.specs.Placed.{EveryOne}
use Rattle.laws_heap.proofs.Slots.{stands_slot, number_stands, each_first_slot, every_first_slot, every_first-more}
use Rattle.master_table.specs.declared.table.EmptySlot.{EmptySlot}
use Rattle.master_table.specs.Table.{IsEmptyAt, IsUsedAt, UsedBefore, NotAmong, IsFirstEmpty}

-- the first empty one, if those before it are in use
pub first_empty : (image : List ℕ) (number : ℕ) (free : EmptySlot) → IsEmptyAt image number free → UsedBefore image number → IsFirstEmpty image free.name.0 free.before
first_empty image number free e used =
    let stands : StandsBehind image free.name.0 free.before = subst (λ (k : ℕ). StandsBehind image free.name.0 k) (sym e.count) e.stands in
    record { stands = stands; is_slot = stands_slot image free.name.0 free.before stands; empty = e.empty; used = subst (λ (k : ℕ). UsedBefore image k) (sym e.count) used }

-- one more is in use
pub used_more : (image : List ℕ) (k : ℕ) → k < slots_total image → UsedBefore image k → IsUsedAt image k → UsedBefore image (k + 1)
used_more image k below used here =
    let s = number_stands image k below in
    every_first-more (λ slot. u32_at image slot ≢ 0) image s.0 k s.1 used (here s.0 s.1)

-- the same with an index among the slots after some
pub used_next : (image : List ℕ) (before index : ℕ) → before + index < slots_total image → UsedBefore image (before + index) → IsUsedAt image (before + index) → UsedBefore image (before + (index + 1))
used_next image before index below used here =
    let e : before + index + 1 ≡ before + (index + 1) = omega arith in
    subst (λ (k : ℕ). UsedBefore image k) e (used_more image (before + index) below used here)

pub used_fewer : (image : List ℕ) (count fewer : ℕ) → fewer ≤ count → UsedBefore image count → UsedBefore image fewer
used_fewer image count fewer most used =
    every_first_slot (λ slot. u32_at image slot ≢ 0) image fewer (λ slot j s below. each_first_slot (λ slot. u32_at image slot ≢ 0) image slot j count s (omega arith) used)

-- ---- names that are none of the first

-- a name's slot is none of those before it, and a name that is no slot's is no slot
pub not_among-number : (image : List ℕ) (count name : ℕ) → ((number : ℕ) → StandsBehind image name number → count ≤ number) → NotAmong image count name
not_among-number image count name least =
    every_first_slot (λ slot. slot ≢ name) image count (λ slot j s below same. let most = least j (subst (λ (t : ℕ). StandsBehind image t j) same s) in omega arith)

-- an empty slot is none of those in use
pub not_among-first_empty : (image : List ℕ) (slot before : ℕ) → IsFirstEmpty image slot before → NotAmong image before slot
not_among-first_empty image slot before first = every_first_slot (λ other. other ≢ slot) image before (λ other j s below same. each_first_slot (λ t. u32_at image t ≢ 0) image other j before s below first.used (ap (u32_at image) same ∙ first.empty))

-- ---- after a change

-- The first `count` slots stay in use if each slot that was in use, whatever its name, is in use
-- still.
pub used_still : (old new : List ℕ) (count : ℕ) → slots_of new ≡ slots_of old → ((slot : ℕ) → IsSlot old slot → u32_at old slot ≢ 0 → u32_at new slot ≢ 0) → UsedBefore old count → UsedBefore new count
used_still old new count slots each used =
    let as_old : first_slots new count ≡ first_slots old count = ap (λ (xs : List ℕ). take count xs) slots in
    subst (λ (xs : List ℕ). EveryOne (λ slot. u32_at new slot ≢ 0) xs) (sym as_old)
    (every_first_slot (λ slot. u32_at new slot ≢ 0) old count (λ slot j s below. each slot (stands_slot old slot j s) (each_first_slot (λ slot. u32_at old slot ≢ 0) old slot j count s below used)))

-- The same if further slots follow all of them, and those that were in use still are.
pub used_more_slots : (old new : List ℕ) (count : ℕ) (more : List ℕ) → slots_of new ≡ slots_of old ++ more → count ≤ slots_total old → ((slot : ℕ) → IsSlot old slot → u32_at old slot ≢ 0 → u32_at new slot ≢ 0) → UsedBefore old count → UsedBefore new count
used_more_slots old new count more slots few each used =
    let as_old : first_slots new count ≡ first_slots old count = ap (λ (xs : List ℕ). take count xs) slots ∙ take-append-le count (slots_of old) more few in
    subst (λ (xs : List ℕ). EveryOne (λ slot. u32_at new slot ≢ 0) xs) (sym as_old)
    (every_first_slot (λ slot. u32_at new slot ≢ 0) old count (λ slot j s below. each slot (stands_slot old slot j s) (each_first_slot (λ slot. u32_at old slot ≢ 0) old slot j count s below used)))

-- The same if only a name's slot changes, which is none of them.
pub used_apart : (old new : List ℕ) (count name : ℕ) → slots_of new ≡ slots_of old → ((slot : ℕ) → IsSlot old slot → slot ≢ name → u32_at new slot ≡ u32_at old slot) → NotAmong old count name → UsedBefore old count → UsedBefore new count
used_apart old new count name slots each apart used =
    let as_old : first_slots new count ≡ first_slots old count = ap (λ (xs : List ℕ). take count xs) slots in
    subst (λ (xs : List ℕ). EveryOne (λ slot. u32_at new slot ≢ 0) xs) (sym as_old)
    (every_first_slot (λ slot. u32_at new slot ≢ 0) old count (λ slot j s below empty.
    each_first_slot (λ slot. u32_at old slot ≢ 0) old slot j count s below used
    (sym (each slot (stands_slot old slot j s) (each_first_slot (λ slot. slot ≢ name) old slot j count s below apart)) ∙ empty)))

-- The same if the first empty one is set.
pub used_set : (old new : List ℕ) (slot before : ℕ) → IsFirstEmpty old slot before → slots_of new ≡ slots_of old → ((other : ℕ) → IsSlot old other → other ≢ slot → u32_at new other ≡ u32_at old other) → UsedBefore new before
used_set old new slot before first slots each = used_apart old new before slot slots each (not_among-first_empty old slot before first) first.used
