-- The loans that are left are all that are out.
use Rattle.std.proofs.Common.{vec_len}
use Rattle.test_managers.specs.Lenders.{AreAllOut}
use Rattle.test_managers.proofs.store.lender.Lender.into_store.Given as goal

abbrev pub invariant-loop-store : goal.invariant-loop-store
invariant-loop-store l = AreAllOut l.store l.loans.items l.store.lents

abbrev pub decreases-loop-store : goal.decreases-loop-store
decreases-loop-store l = vec_len l.loans
