use Rattle.std.proofs.Common.{◌∙◌, ap}
use Rattle.heap_model.specs.Memory.{Memory}
use Rattle.test_formats.proofs.heap.heaps.CheckedSpace.make.Goals as goal

pub invariant_of-self : goal.invariant_of-self
invariant_of-self c = ((c.claim.ensures.made c.in_ok-room.ensures.room).frame.accepted, ap (λ (m : Memory). m.lents) c.claim.ensures.rest ∙ c.self.invariant.1)
