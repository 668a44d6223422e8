use Rattle.laws_store.proofs.ChangeSteps.{same_steps}
use Rattle.laws_store.proofs.laws.refusals_are_steps.Goals as goal

pub returns : goal.returns
returns c = (
  same_steps,
  λ old new a frame before.
      let all = same_steps old.bytes new.bytes a frame before.map in
      (all.accepted, record { store = all.same; free = before.free; slots = before.slots }),
)
