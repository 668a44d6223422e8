-- Nothing is lent.
use Rattle.std.proofs.Common.{[], ◌≡◌}
use Rattle.std.specs.Prelude.{None}
use Rattle.benchmarks.proofs.memory.heaps.chained_heap.Given as goal

abbrev pub invariant-loop-table : goal.invariant-loop-table
invariant-loop-table l = l.heap.lents ≡ []

abbrev pub invariant-loop-name : goal.invariant-loop-name
invariant-loop-name l = l.heap.lents ≡ []
