use Rattle.laws_heap.proofs.KeptLoans.{keeps_then}
use Rattle.test_managers.proofs.store.loans.check_meanwhile.Goals as goal

pub returns-in_err-equal-5-clause-loan : goal.returns-in_err-equal-5-clause-loan
returns-in_err-equal-5-clause-loan c = keeps_then _ _ _ c.unlock.ensures.does.loan c.resize.ensures.does.loan

pub returns-in_err-equal-6-clause-loan : goal.returns-in_err-equal-6-clause-loan
returns-in_err-equal-6-clause-loan c = keeps_then _ _ _ c.unlock.ensures.does.loan c.resize.ensures.does.loan

pub returns-in_err-equal-7-clause-loan : goal.returns-in_err-equal-7-clause-loan
returns-in_err-equal-7-clause-loan c = keeps_then _ _ _ (keeps_then _ _ _ c.unlock.ensures.does.loan c.resize.ensures.does.loan) c.free.ensures.does.loan

pub returns-in_err-replies-clause-loan : goal.returns-in_err-replies-clause-loan
returns-in_err-replies-clause-loan c = keeps_then _ _ _ (keeps_then _ _ _ (keeps_then _ _ _ c.unlock.ensures.does.loan c.resize.ensures.does.loan) c.free.ensures.does.loan) c.run_calls.ensures.stays.names

pub returns-clause-loan : goal.returns-clause-loan
returns-clause-loan c = keeps_then _ _ _ (keeps_then _ _ _ (keeps_then _ _ _ c.unlock.ensures.does.loan c.resize.ensures.does.loan) c.free.ensures.does.loan) c.run_calls.ensures.stays.names
