-- Each slot is a word that has a mark if there are enough marks.
use Rattle.store_check.proofs.Terms.{◌≡◌, ℕ, ◌-◌, ◌/◌, false, true, List, length, sym, subst, ◌∙◌, arith, IsSlot, is_chained, slot_count, HeapAccepted, cond-true, slot_facts, slot_stands, stands_below, marked_word, marks_needed, AreEnoughMarks, HasMark}
use Rattle.laws_heap.proofs.OneTable.{one_total, one_number}

pub slot_word : (image : List ℕ) (slot : ℕ) → HeapAccepted image → IsSlot image slot
    → (number : ℕ) × (marked_word number ≡ slot)
slot_word image slot h s =
    let facts = slot_facts image h.0 slot h.1.tiles s in
    let low = facts.low in
    let whole = facts.whole in
    ((slot - 16) / 4, omega arith)

pub slot_marked : (image : List ℕ) (slot count : ℕ) → HeapAccepted image
    → AreEnoughMarks image count → IsSlot image slot → HasMark slot count
slot_marked image slot count h room s = let word = slot_word image slot h s in
    (word.0, word.1, room word.0 (subst (IsSlot image) (sym word.1) s))

-- with a chain a mark for each word is enough
pub chained_words : (image : List ℕ) (count : ℕ) → is_chained image ≡ true
    → count ≡ marks_needed image → count ≡ length image / 4
chained_words image count chained is = is ∙ cond-true _ _ _ chained

pub chained_room : (image : List ℕ) (count : ℕ) → HeapAccepted image → count ≡ length image / 4
    → AreEnoughMarks image count
chained_room image count h words number s = let inside = (slot_facts _ _ _ h.1.tiles s).inside in
    omega arith

-- and in an image with one table a mark for each slot
pub plain_room : (image : List ℕ) (count : ℕ) → is_chained image ≡ false → count ≡ slot_count image
    → AreEnoughMarks image count
plain_room image count plain is number s =
    let stands = slot_stands image (marked_word number) s in
    let there = one_number image (marked_word number) stands.0 plain stands.1 in
    let below = stands_below image (marked_word number) stands.0 stands.1 in
    let total = one_total image plain in
    omega arith
