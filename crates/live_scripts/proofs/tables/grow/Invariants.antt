-- The loop of `grow` keeps its invariant: the new items stand for no binding.
use Rattle.live_scripts.proofs.Words.{◌≡◌, ◌-◌, length, table}
use Rattle.live_scripts.proofs.tables.grow.Given as goal

abbrev pub invariant-loop-unbound : goal.invariant-loop-unbound
invariant-loop-unbound g l = table l.unbound l.items.items ≡ table l.unbound l.fn.items.items

abbrev pub decreases-loop-unbound : goal.decreases-loop-unbound
decreases-loop-unbound g l = l.count - length l.items.items
