-- A chunk is made under an empty slot, and all loans stay.
use Rattle.mem_manager.proofs.Laws.{same_lents, keeps_made, managed_made}
use Rattle.mem_manager.proofs.heap.Heap.sys_new.Goals as goal

pub returns-clause-had_room : goal.returns-clause-had_room
returns-clause-had_room c = rw (← c.self.view_is) c.in_ok-slot.ensures.had_room

pub make_movable-requires-clause-none : goal.make_movable-requires-clause-none
make_movable-requires-clause-none c =
    rw c.region.ensures.same at c.next_empty_slot-found.ensures.none

pub returns-clause-loan : goal.returns-clause-loan
returns-clause-loan c =
    rw (← c.self.view_is)
    (keeps_made c.make_movable.new.space c.self.invariant.heap (same_lents c.make_movable.ensures.rest) c.in_ok-slot.ensures.made)

pub invariant_of-self-2 : goal.invariant_of-self-2
invariant_of-self-2 c = managed_made c.self.invariant c.make_movable.ensures.heap
    c.in_ok-slot.ensures.in_use c.in_ok-slot.ensures.table c.in_ok-slot.ensures.made
