use Rattle.std.proofs.Common.{arith}
use Rattle.laws_heap.proofs.Lending.{all_within}
use Rattle.laws_heap.proofs.Slots.{stands_slot, slot_facts}
use Rattle.test_formats.proofs.heap.slots.put_in.Goals as goal

pub slots_before-requires-clause-tiled : goal.slots_before-requires-clause-tiled
slots_before-requires-clause-tiled c = (c.requires.accepted.0, c.requires.accepted.1.tiles)

pub set-requires-clause-within : goal.set-requires-clause-within
set-requires-clause-within c =
    let inside = (slot_facts c.args.region.now.bytes c.requires.accepted.0 c.args.slot.0 c.requires.accepted.1.tiles (stands_slot c.args.region.now.bytes c.args.slot.0 _ c.in-Some.ensures.some)).inside in
    all_within c.args.region.now c.args.slot.0 4 c.requires.whole (omega arith)

pub set-requires-clause-slot : goal.set-requires-clause-slot
set-requires-clause-slot c = stands_slot c.args.region.now.bytes c.args.slot.0 _ c.in-Some.ensures.some

pub clear-requires-clause-within : goal.clear-requires-clause-within
clear-requires-clause-within c =
    let inside = (slot_facts c.args.region.now.bytes c.requires.accepted.0 c.args.slot.0 c.requires.accepted.1.tiles (stands_slot c.args.region.now.bytes c.args.slot.0 _ c.in-Some.ensures.some)).inside in
    all_within c.args.region.now c.args.slot.0 4 c.requires.whole (omega arith)

pub clear-requires-clause-slot : goal.clear-requires-clause-slot
clear-requires-clause-slot c = stands_slot c.args.region.now.bytes c.args.slot.0 _ c.in-Some.ensures.some
