-- The slots are those of the tables that tile the image.
use Rattle.heap_compact.proofs.Words.{ap, ◌∙◌, Memory, slots_total}
use Rattle.heap_compact.proofs.space.Space.slots_total.Goals as goal

pub slots_total-requires-clause-tiled : goal.slots_total-requires-clause-tiled
slots_total-requires-clause-tiled c = (c.self.invariant.heap.accepted.0, c.self.invariant.heap.accepted.1.tiles)

pub returns : goal.returns
returns c = c.slots_total.ensures ∙ ap (λ (m : Memory). slots_total m.bytes) c.self.view_is
