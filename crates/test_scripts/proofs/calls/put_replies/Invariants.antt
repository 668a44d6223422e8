-- What is lent stays lent.
use Rattle.std.proofs.Common.{[], ◌≡◌}
use Rattle.test_scripts.proofs.calls.put_replies.Given as goal

abbrev pub invariant-loop-call : goal.invariant-loop-call
invariant-loop-call l = l.store.lents ≡ l.fn.store.lents
