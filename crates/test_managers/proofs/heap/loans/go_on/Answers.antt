-- Each step keeps what is lent.
use Rattle.std.proofs.Common.{◌∙◌}
use Rattle.laws_heap.proofs.KeptLoans.{keeps_then}
use Rattle.test_managers.proofs.heap.loans.go_on.Goals as goal

pub returns-in_err-step-clause-loan : goal.returns-in_err-step-clause-loan
returns-in_err-step-clause-loan c = keeps_then _ _ _ c.loop.invariant.loan c.step.ensures.loan

pub loop-preserved : goal.loop-preserved
loop-preserved c = record { lent = c.step.ensures.lent ∙ c.loop.invariant.lent; loan = keeps_then _ _ _ c.loop.invariant.loan c.step.ensures.loan }
