-- The list of the slots is the one that `IsSlot` is defined by.
use Rattle.std.proofs.Common.{◌≡◌, true}
use Rattle.heap_model.specs.Slots.{IsSlot}
use Rattle.laws_heap.proofs.Slots.{every_slot, each_slot}
use Rattle.laws_heap.proofs.laws.slots_are_listed.Goals as goal

pub returns : goal.returns
returns c image = (
  every_slot (IsSlot image) image (λ slot s. s),
  λ P every. each_slot (λ slot. P slot ≡ true) image every,
)
