use Rattle.std.proofs.Common.{subst}
use Rattle.heap_model.specs.Memory.{Memory}
use Rattle.palm_script.specs.Headline.{AnswersAsRun}
use Rattle.palm_script.proofs.LoanLaws.{answers_as_run}
use Rattle.palm_script.proofs.lists.check_and_run_from.Goals as goal

pub returns-in-Ok-run_calls_from-clause-run : goal.returns-in-Ok-run_calls_from-clause-run
returns-in-Ok-run_calls_from-clause-run g c =
    subst (λ (region : Memory). AnswersAsRun region c.args.calls.now c.in-Ok-run_calls_from.replies.items c.run_calls_from.new.store) c.in-Ok.ensures.same
    (answers_as_run c.in-Ok.store c.args.calls.now c.in-Ok-run_calls_from.replies.items c.run_calls_from.new.store (rw c.in-Ok.ensures.same c.in-Ok.ensures.accepted) c.in-Ok-run_calls_from.ensures.loan)
