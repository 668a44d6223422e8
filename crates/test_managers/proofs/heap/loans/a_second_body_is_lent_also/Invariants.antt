-- Nothing is lent.
use Rattle.std.proofs.Common.{[], ◌≡◌}
use Rattle.test_managers.proofs.heap.loans.a_second_body_is_lent_also.Given as goal

abbrev pub invariant-loop-name : goal.invariant-loop-name
invariant-loop-name l = l.heap.lents ≡ []
