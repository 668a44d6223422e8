-- The slots of an image that has no chain of tables.
use Rattle.laws_heap.proofs.Words.{false, ◌≡◌, ℕ, suc, ◌+◌, ◌-◌, ◌*◌, ◌<◌, ◌≤◌, List, ◌++◌, length, refl, sym, ap, subst, ◌∙◌, arith, inl, inr, append-nil, ◌⊎◌, slots_in_row, slots_further, slots_of, slots_total, slot_count, is_chained, area_start, IsSlot, StandsBehind, TablesLie}
use Rattle.laws_heap.proofs.Tables.{no_further, none_behind}
use Rattle.laws_heap.proofs.Slots.{row_parts, length-slots_in_row, same_slot, stands_below, slot_stands, every_slot}

pub one_row : (image : List ℕ) → is_chained image ≡ false
    → slots_of image ≡ slots_in_row 16 (slot_count image)
unfolding slots_of
one_row image plain =
    ap (λ ts. slots_in_row 16 (slot_count image) ++ slots_further ts) (no_further image plain)
    ∙ append-nil (slots_in_row 16 (slot_count image))

pub one_total : (image : List ℕ) → is_chained image ≡ false → slots_total image ≡ slot_count image
one_total image plain = ap (λ xs. length xs) (one_row image plain) ∙ length-slots_in_row 16 _

-- the slot of a number, by its offset
pub one_stands : (image : List ℕ) (slot k : ℕ) → is_chained image ≡ false → k < slot_count image
    → slot ≡ 16 + 4 * k → StandsBehind image slot k
one_stands image slot k plain below there =
    let more : ℕ = slot_count image - suc k in
    let many : slot_count image ≡ k + suc more = omega arith in
    let parts = one_row image plain ∙ ap (slots_in_row 16) many ∙ row_parts 16 k more in
    subst (λ s. StandsBehind image s k) (sym there) record {
      front = slots_in_row 16 k;
      rest = slots_in_row (16 + 4 * k + 4) more;
      parts = parts;
      before = length-slots_in_row 16 k;
    }

-- and the number of a slot
pub one_number : (image : List ℕ) (slot k : ℕ) → is_chained image ≡ false
    → StandsBehind image slot k → slot ≡ 16 + 4 * k
one_number image slot k plain s =
    let below = stands_below image slot k s in
    let total = one_total image plain in
    same_slot image slot (16 + 4 * k) k s (one_stands image (16 + 4 * k) k plain (omega arith) refl)

pub one_same : (image : List ℕ) (slot j k : ℕ) → is_chained image ≡ false
    → StandsBehind image slot j → StandsBehind image slot k → j ≡ k
one_same image slot j k plain a b =
    let one = one_number image slot j plain a in
    let other = one_number image slot k plain b in
    omega arith

-- no slot stands before the table, nor after it, nor next to its words
pub none_outside : (image : List ℕ) (slot : ℕ) → is_chained image ≡ false
    → (slot < 16) ⊎ (16 + 4 * slot_count image ≤ slot) → IsSlot image slot → ⊥
none_outside image slot plain outside s =
    let k = slot_stands image slot s in
    let there = one_number image slot k.0 plain k.1 in
    let below = stands_below image slot k.0 k.1 in
    let total = one_total image plain in
    elim outside [ inl low ↦ absurd (omega arith) | inr high ↦ absurd (omega arith) ]

-- the table lies before the chunks
pub one_lies : (image : List ℕ) → is_chained image ≡ false → area_start image ≤ length image
    → TablesLie image
one_lies image plain inside =
    let none = none_behind image plain in
    record {
      first = omega arith;
      slots = every_slot (λ slot. slot + 4 ≤ length image) image (λ slot s.
          let k = slot_stands image slot s in
          let there = one_number image slot k.0 plain k.1 in
          let below = stands_below image slot k.0 k.1 in
          let total = one_total image plain in
          omega arith);
    }
