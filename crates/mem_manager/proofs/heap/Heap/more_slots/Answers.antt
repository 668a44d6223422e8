-- The slots in use stay so, with no more of them counted than there were.
use Rattle.mem_manager.proofs.Laws.{arith, used_gained}
use Rattle.mem_manager.proofs.heap.Heap.more_slots.Goals as goal

pub invariant_of-self-2 : goal.invariant_of-self-2
invariant_of-self-2 c =
    let least = c.min-self-inside.ensures in let total = c.slots_total-total.ensures in
    used_gained c.min-self-inside.result c.self.invariant c.make_table.ensures.heap
    (omega (arith, least)) (omega (arith, least, total)) c.in_ok-make_table.ensures.does
