-- A movable chunk names its slot again, and the slot gets its new place; any other chunk stays as it is.
use Rattle.heap_compact.proofs.Laws.{arith, same_bytes, same_lents, slot_again_within}
use Rattle.heap_compact.proofs.MendLaws.{next_of, mends, stepped_kept}
use Rattle.heap_compact.proofs.lift.mend_one.Goals as goal

pub at_with_size-header-requires-clause-chunk : goal.at_with_size-header-requires-clause-chunk
at_with_size-header-requires-clause-chunk c =
    record { chunk = _; spelled = (next_of c.requires.carried.lifting).spelled }

pub at_with_size-header-requires-clause-small : goal.at_with_size-header-requires-clause-small
at_with_size-header-requires-clause-small c =
    omega (arith, (next_of c.requires.carried.lifting).most)

pub overflow_sub-slot : goal.overflow_sub-slot
overflow_sub-slot c =
    (mends _ c.requires.carried.lifting c.at_with_size-header.ensures.header c.at_with_size-header.ensures.size c.in-Movable.is).up

pub put_slot-requires : goal.put_slot-requires
put_slot-requires c =
    let m = mends _ c.requires.carried.lifting c.at_with_size-header.ensures.header c.at_with_size-header.ensures.size c.in-Movable.is in
    record { inside = record { inside = m.can.inside; misses = c.requires.misses }; small = m.can.small; slot = m.can.low; even = m.can.even }

pub set-requires : goal.set-requires
set-requires c =
    let m = mends _ c.requires.carried.lifting c.at_with_size-header.ensures.header c.at_with_size-header.ensures.size c.in-Movable.is in
    let t = m.can.table _ (same_bytes c.put_slot.ensures.after) in
    record { slot = t.1; within = slot_again_within _ c.requires.table m.can.is_slot (same_lents c.put_slot.ensures.after) t.0 t.1 }

pub returns-in-Movable-clause-mended : goal.returns-in-Movable-clause-mended
returns-in-Movable-clause-mended c = λ lift done chunk rest l.
    (mends _ l c.at_with_size-header.ensures.header c.at_with_size-header.ensures.size c.in-Movable.is).step
    _ _ (same_bytes c.put_slot.ensures.after) c.put_slot.ensures.reslotted (same_bytes c.set.ensures.after)

pub returns-in_default-clause-mended : goal.returns-in_default-clause-mended
returns-in_default-clause-mended c = λ lift done chunk rest l.
    stepped_kept _ l c.at_with_size-header.ensures.header c.at_with_size-header.ensures.size c.in_default.not-Movable
