-- `grow` adds only items that stand for no binding, by the laws of TableLaws.
use Rattle.std.proofs.Common.{◌∙◌}
use Rattle.live_scripts.proofs.TableLaws.{table_grown}
use Rattle.live_scripts.proofs.tables.grow.Goals as goal

-- the new item stands for no binding
pub loop-unbound-preserved : goal.loop-unbound-preserved
loop-unbound-preserved g c = rw c.in_ok-push.ensures.items
    (table_grown c.loop-unbound.items.items c.args.unbound ∙ c.loop-unbound.invariant)
