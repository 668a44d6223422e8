-- The loan is out still after the calls, and is all that was taken out.
use Rattle.std.proofs.Common.{ap}
use Rattle.mem_manager.specs.Loans.{OnLoan}
use Rattle.mem_manager.proofs.OutLaws.{still_out, all_back}
use Rattle.test_managers.proofs.heap.loans.go_on_lent.Goals as goal

pub put_back-requires : goal.put_back-requires
put_back-requires c =
    still_out c.args.apart.now c.take_out.new.self c.go_on-done.new.apart c.args.name c.in_ok-loan.loan c.write.new.self c.in_ok-loan.ensures.taken c.go_on-done.ensures.lent c.go_on-done.ensures.loan
    (ap (λ (loan : OnLoan). loan.name) c.write.ensures.after) (ap (λ (loan : OnLoan). loan.part.start) c.write.ensures.after) c.write.ensures.len

pub returns : goal.returns
returns c =
    all_back c.args.apart.now c.take_out.new.self c.go_on-done.new.apart c.put_back.new.self c.args.name c.in_ok-loan.loan c.write.new.self c.in_ok-loan.ensures.taken c.go_on-done.ensures.lent c.go_on-done.ensures.loan
    (ap (λ (loan : OnLoan). loan.name) c.write.ensures.after) c.put_back.ensures.back
