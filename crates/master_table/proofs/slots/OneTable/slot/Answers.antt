use Rattle.std.proofs.Common.{refl, subst, ℕ, ◌<◌}
use Rattle.laws_heap.proofs.OneTable.{one_stands}
use Rattle.master_table.proofs.slots.OneTable.slot.Goals as goal

pub returns : goal.returns
returns c = λ image is. one_stands image _ c.args.number is.0 (subst (λ (n : ℕ). c.args.number < n) is.1 c.requires) refl
