-- Nothing is lent.
use Rattle.std.proofs.Common.{[], ◌≡◌}
use Rattle.std.specs.Prelude.{None}
use Rattle.test_tables.proofs.more.slots_of_each_table_are_given.Given as goal

abbrev pub invariant-loop-k : goal.invariant-loop-k
invariant-loop-k g l = l.heap.lents ≡ []

abbrev pub invariant-loop-name : goal.invariant-loop-name
invariant-loop-name g l = l.heap.lents ≡ []
