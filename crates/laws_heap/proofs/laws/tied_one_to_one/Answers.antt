-- The ties give a slot one place, and the tiling gives a place one slot.
use Rattle.laws_heap.proofs.Bodies.{one_place, one_slot}
use Rattle.laws_heap.proofs.laws.tied_one_to_one.Goals as goal

pub returns : goal.returns
returns c image cs tiles tied =
    record { one_place = one_place image cs tied; one_slot = one_slot image cs tiles }
