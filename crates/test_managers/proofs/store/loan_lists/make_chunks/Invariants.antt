-- What is lent stays lent.
use Rattle.std.proofs.Common.{◌≡◌}
use Rattle.test_managers.proofs.store.loan_lists.make_chunks.Given as goal

abbrev pub invariant-loop : goal.invariant-loop
invariant-loop l = l.store.lents ≡ l.initial.store.lents
