-- What is lent stays lent.
use Rattle.std.proofs.Common.{[], ◌≡◌}
use Rattle.benchmarks.proofs.memory.heaps.Original.free_first.Given as goal

abbrev pub invariant-loop-kept : goal.invariant-loop-kept
invariant-loop-kept l = l.heap.lents ≡ l.fn.heap.lents
