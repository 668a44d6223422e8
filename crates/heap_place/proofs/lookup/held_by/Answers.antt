-- The chunk whose place a slot holds is movable and names the slot.
use Rattle.heap_place.proofs.Laws.{arith, found_within, held_slot, slot_low, slot_live, slot_fields}
use Rattle.heap_place.proofs.lookup.held_by.Goals as goal

pub overflow_sub-place : goal.overflow_sub-place
overflow_sub-place c = slot_low c.requires.heap.accepted c.requires.holds

pub live_fields-fields-requires : goal.live_fields-fields-requires
live_fields-fields-requires c =
    let heap = c.requires.heap in let i = held_slot heap.accepted c.requires.holds in
    record { live = slot_live heap.accepted c.requires.holds; small = omega arith; misses = (found_within c.args.region.now _ i.live _ _ heap.accepted heap.lent i.finds).misses }

pub returns : goal.returns
returns c = slot_fields _ _ c.requires.heap.accepted c.requires.holds c.live_fields-fields.ensures
