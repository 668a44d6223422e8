use Rattle.std.specs.List.Sorted.{IsPermutation}
use Rattle.benchmarks.proofs.memory.numbers.Numbers.shuffle.Given as goal

abbrev pub invariant-loop-i : goal.invariant-loop-i
invariant-loop-i l = IsPermutation l.fn.names l.names
