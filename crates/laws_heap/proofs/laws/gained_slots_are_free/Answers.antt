use Rattle.laws_heap.proofs.MoreTables.{gains_free}
use Rattle.laws_heap.proofs.laws.gained_slots_are_free.Goals as goal

pub returns : goal.returns
returns c = gains_free
