-- Each turn puts the first loan back.
use Rattle.std.proofs.Common.{List, sym, ap, subst, arith}
use Rattle.mem_manager.specs.Loans.{OnLoan}
use Rattle.test_managers.specs.Lenders.{AreAllOut}
use Rattle.test_managers.proofs.LoansOut.{one_less}
use Rattle.test_managers.proofs.store.lender.Lender.into_store.Goals as goal

pub loop-store-preserved : goal.loop-store-preserved
loop-store-preserved c =
    let count = c.remove.ensures.len in let long = c.loop-store.loans.ok.0 in
    subst (λ (loans : List OnLoan). AreAllOut c.put_back.new.self loans c.put_back.new.self.lents) (sym c.remove.ensures.items)
    (one_less c.loop-store.store c.put_back.new.self c.loop-store.loans.items 0 c.remove.result c.remove.result (omega (arith, count, long)) (ap (λ (l : OnLoan). l.name) c.remove.ensures.value) c.put_back.ensures.back c.loop-store.invariant)
