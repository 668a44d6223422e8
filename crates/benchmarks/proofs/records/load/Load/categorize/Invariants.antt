-- Nothing is lent.
use Rattle.std.proofs.Common.{[], ◌≡◌}
use Rattle.std.specs.Prelude.{None}
use Rattle.benchmarks.proofs.records.load.Load.categorize.Given as goal

abbrev pub invariant-loop-half : goal.invariant-loop-half
invariant-loop-half l = l.self-inside.store.lents ≡ []
