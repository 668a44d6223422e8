-- A chunk is joined with the room before it, stays after it, or goes down over it.
use Rattle.heap_compact.proofs.Laws.{inl, inr, ap, ◌∙◌, arith, sym, size_by, lists_weaker, same_bytes, same_lents, behind_spelled, join_writable, packed_free, free_keeps, room_in_front, slot_there, droppable, packed_movable, packed_kept, kept_linked, behind_misses, join_misses, kept_lists, packed_holds}
use Rattle.heap_compact.proofs.pack.pack_one.Goals as goal

pub at_with_size-header-requires : goal.at_with_size-header-requires
at_with_size-header-requires c =
    record { chunk = record { chunk = _; spelled = behind_spelled c.requires.heap.accepted c.requires.behind }; small = omega (arith, c.requires.heap.accepted.1.tiles.head.most); misses = behind_misses c.requires.heap c.requires.behind }

-- ---- a free chunk

pub write-requires-clause-writable : goal.write-requires-clause-writable
write-requires-clause-writable c =
    join_writable c.requires.heap.accepted c.requires.behind
    (rw c.in-Free.is at c.at_with_size-header.ensures.header) (c.at_with_size-header.ensures.size ∙ ap size_by c.in-Free.is)

pub write-requires-clause-misses : goal.write-requires-clause-misses
write-requires-clause-misses c =
    join_misses c.requires.heap c.requires.behind (rw c.in-Free.is at c.at_with_size-header.ensures.header)

pub returns-in-Free-clause-packed : goal.returns-in-Free-clause-packed
returns-in-Free-clause-packed c = λ b.
    packed_free c.requires.heap.accepted b
    (rw c.in-Free.is at c.at_with_size-header.ensures.header) (c.at_with_size-header.ensures.size ∙ ap size_by c.in-Free.is)
    (same_bytes c.write.ensures.after) c.write.ensures.spelled

pub returns-in-Free-clause-lists : goal.returns-in-Free-clause-lists
returns-in-Free-clause-lists c =
    kept_lists _ _ _ _ _ (omega arith)
    (free_keeps c.requires.heap.accepted c.requires.behind
    (rw c.in-Free.is at c.at_with_size-header.ensures.header) (c.at_with_size-header.ensures.size ∙ ap size_by c.in-Free.is)
    (same_bytes c.write.ensures.after) c.write.ensures.spelled) c.requires.lists

pub returns-in-Free-clause-heap : goal.returns-in-Free-clause-heap
returns-in-Free-clause-heap c =
    packed_holds c.requires.heap (same_lents c.write.ensures.after) (returns-in-Free-clause-packed c c.requires.behind)

-- ---- one that stays, or has no room before it

pub push_room-requires-clause-within : goal.push_room-requires-clause-within
push_room-requires-clause-within c = (room_in_front c.requires.behind).0

pub push_room-requires-clause-free : goal.push_room-requires-clause-free
push_room-requires-clause-free c = (room_in_front c.requires.behind).1

pub returns-then-stays-clause-packed : goal.returns-then-stays-clause-packed
returns-then-stays-clause-packed c = λ b.
    kept_linked
    (packed_kept c.requires.heap.accepted b c.at_with_size-header.ensures.header c.in_default.not-Free c.at_with_size-header.ensures.size
    (elim c.then-stays.branch [
      | goal.then-stays-via-then-stays w ↦ inl (c.stays.ensures.0 w.if-stays.true)
      | goal.then-stays-via-else-stays+then-room-eq0 w ↦ inr (λ stay. let is = c.stays.ensures.1 stay in let isnt = w.if-stays.false in cc, omega arith)
    ])) c.push_room.ensures.same

pub returns-then-stays-clause-lists : goal.returns-then-stays-clause-lists
returns-then-stays-clause-lists c =
    lists_weaker _ _ _ _ (λ x b before. omega arith) c.push_room.ensures.lists

-- ---- one that goes down

pub unwrap-slot-requires : goal.unwrap-slot-requires
unwrap-slot-requires c =
    rw c.slot_of.ensures (slot_there _ c.in_default.not-Free (λ stay. let is = c.stays.ensures.1 stay in let isnt = c.if-stays.false in cc))

pub drop_one-requires-clause-drops : goal.drop_one-requires-clause-drops
drop_one-requires-clause-drops c =
    droppable c.requires.heap.accepted c.requires.behind c.at_with_size-header.ensures.header
    (λ stay. let is = c.stays.ensures.1 stay in let isnt = c.if-stays.false in cc)
    (sym c.slot_of.ensures ∙ c.unwrap-slot.ensures) c.at_with_size-header.ensures.size (omega arith)

pub returns-clause-packed : goal.returns-clause-packed
returns-clause-packed c = λ b.
    packed_movable c.requires.heap.accepted b c.at_with_size-header.ensures.header
    (λ stay. let is = c.stays.ensures.1 stay in let isnt = c.if-stays.false in cc)
    (sym c.slot_of.ensures ∙ c.unwrap-slot.ensures) c.at_with_size-header.ensures.size (omega arith) c.drop_one.ensures.dropped

pub returns-clause-lists : goal.returns-clause-lists
returns-clause-lists c =
    kept_lists _ _ _ _ _ (omega arith) c.drop_one.ensures.keeps c.requires.lists
