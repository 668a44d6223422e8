-- The loan is out still after the calls, and is all that was taken out.
use Rattle.std.proofs.Common.{◌∙◌, sym, subst, ap}
use Rattle.heap_model.specs.Memory.{Memory}
use Rattle.heap_model.specs.Lending.{KeepsLoan}
use Rattle.mem_manager.specs.Loans.{OnLoan}
use Rattle.palm_store.proofs.LoansBack.{still_out, all_back}
use Rattle.test_managers.proofs.store.loans.said_meanwhile.Goals as goal

pub put_back-requires : goal.put_back-requires
put_back-requires c =
    let same = c.refused_meanwhile-again.ensures in
    still_out c.args.store.now c.take_out.new.self c.check_meanwhile-done.new.store _ c.in_ok-loan.loan c.write.new.self c.in_ok-loan.ensures.taken (c.check_meanwhile-done.ensures.lent ∙ ap (λ (m : Memory). m.lents) same)
    (subst (λ (m : Memory). KeepsLoan m c.check_meanwhile-done.new.store) same c.check_meanwhile-done.ensures.loan)
    (ap (λ (loan : OnLoan). loan.name) c.write.ensures.after) (ap (λ (loan : OnLoan). loan.part.start) c.write.ensures.after) c.write.ensures.len

pub returns : goal.returns
returns c =
    let same = c.refused_meanwhile-again.ensures in
    all_back c.args.store.now c.take_out.new.self c.check_meanwhile-done.new.store c.put_back.new.self _ c.in_ok-loan.loan c.write.new.self c.in_ok-loan.ensures.taken (c.check_meanwhile-done.ensures.lent ∙ ap (λ (m : Memory). m.lents) same)
    (subst (λ (m : Memory). KeepsLoan m c.check_meanwhile-done.new.store) same c.check_meanwhile-done.ensures.loan) (ap (λ (loan : OnLoan). loan.name) c.write.ensures.after) c.put_back.ensures.back ∙ c.requires
