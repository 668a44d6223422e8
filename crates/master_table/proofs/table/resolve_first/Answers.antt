use Rattle.laws_heap.proofs.Slots.{stands_slot}
use Rattle.master_table.proofs.table.resolve_first.Goals as goal

pub place_in-requires-clause-slot : goal.place_in-requires-clause-slot
place_in-requires-clause-slot c = stands_slot c.args.region.now.bytes c.args.name.0 c.in-Some.field-0 c.in-Some.ensures.some
