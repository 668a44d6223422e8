use Rattle.std.proofs.Common.{◌≡◌}
use Rattle.test_tables.proofs.more.add_far_tables.Given as goal

abbrev pub invariant-loop : goal.invariant-loop
invariant-loop l = l.heap.lents ≡ l.initial.heap.lents
