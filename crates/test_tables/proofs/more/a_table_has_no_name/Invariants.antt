-- Nothing is lent.
use Rattle.std.proofs.Common.{[], ◌≡◌}
use Rattle.std.specs.Prelude.{None}
use Rattle.test_tables.proofs.more.a_table_has_no_name.Given as goal

abbrev pub invariant-loop-name : goal.invariant-loop-name
invariant-loop-name l = l.heap.lents ≡ []

abbrev pub invariant-loop-owner : goal.invariant-loop-owner
invariant-loop-owner l = l.heap.lents ≡ []
