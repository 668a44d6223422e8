-- Nothing is lent.
use Rattle.std.proofs.Common.{[], ◌≡◌}
use Rattle.std.specs.Prelude.{None}
use Rattle.benchmarks.proofs.memory.heaps.OneClass.make.Given as goal

abbrev pub invariant-loop-number : goal.invariant-loop-number
invariant-loop-number l = l.self-inside.heap.lents ≡ []
