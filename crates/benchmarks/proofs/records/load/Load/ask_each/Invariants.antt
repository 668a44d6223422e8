-- Nothing is lent.
use Rattle.std.proofs.Common.{[], ◌≡◌}
use Rattle.std.specs.Prelude.{None}
use Rattle.benchmarks.proofs.records.load.Load.ask_each.Given as goal

abbrev pub invariant-loop-index : goal.invariant-loop-index
invariant-loop-index l = l.self-inside.store.lents ≡ []
