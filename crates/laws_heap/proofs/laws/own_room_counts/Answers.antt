use Rattle.laws_heap.proofs.Stretches.{short_for_parts}
use Rattle.laws_heap.proofs.laws.own_room_counts.Goals as goal

pub returns : goal.returns
returns c = short_for_parts
