-- What is lent stays lent.
use Rattle.std.proofs.Common.{[], ◌≡◌}
use Rattle.test_scripts.proofs.calls.check_calls.Given as goal

abbrev pub invariant-loop-calls : goal.invariant-loop-calls
invariant-loop-calls l = l.store.lents ≡ l.fn.store.lents
