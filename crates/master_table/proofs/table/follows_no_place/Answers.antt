use Rattle.std.proofs.Common.{◌≤◌, ◌-◌, arith}
use Rattle.std.proofs.lemmas.Bool.{OnTrue_from, leb-true}
use Rattle.heap_model.specs.Slots.{IsSlot}
use Rattle.laws_heap.proofs.Lending.{all_misses}
use Rattle.master_table.proofs.SlotWords.{slot_front, lent_no_slot}
use Rattle.master_table.proofs.table.follows_no_place.Goals as goal

pub get_u32-requires : goal.get_u32-requires
get_u32-requires c =
    let low = c.if-at-lt-SLOT_SIZE.false in
    let high = c.if-at-len.false in
    let len = c.len.ensures in
    record { inside = omega (arith, low, high, len); misses = all_misses c.args.region.now.lents (c.args.at - 4) 4 (c.is_whole.ensures.0 c.if-not-is_whole.false) }

pub returns-then-not-is_whole : goal.returns-then-not-is_whole
returns-then-not-is_whole c = OnTrue_from _ (IsSlot c.args.region.now.bytes c.args.at → ⊥) (λ is slot.
    lent_no_slot c.args.region.now c.args.at c.requires.accepted c.requires.lent (c.lends_from.ensures.0 is) slot)

pub returns : goal.returns
returns c = OnTrue_from _ (IsSlot c.args.region.now.bytes c.args.at → ⊥) (λ is slot.
    let high : 16777216 ≤ c.get_u32.result = leb-true _ _ is in
    let low = slot_front c.args.region.now.bytes c.args.at c.requires.accepted slot in
    let same = c.get_u32.ensures in
    absurd (omega (arith, high, low, same)))
