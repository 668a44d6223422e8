-- What is lent stays lent.
use Rattle.std.proofs.Common.{[], ◌≡◌}
use Rattle.benchmarks.proofs.memory.heaps.Original.make_far.Given as goal

abbrev pub invariant-loop : goal.invariant-loop
invariant-loop l = l.heap.lents ≡ l.fn.heap.lents
