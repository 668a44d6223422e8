-- The loan of the index is out, and all others stay.
use Rattle.std.proofs.Common.{List, length, sym, ap, subst, ◌∙◌, arith}
use Rattle.mem_manager.specs.Loans.{OnLoan}
use Rattle.test_managers.specs.Lenders.{AreAllOut}
use Rattle.test_managers.proofs.LoansOut.{out_at, one_less}
use Rattle.test_managers.proofs.store.lender.Lender.put_back.Goals as goal

pub put_back-requires : goal.put_back-requires
put_back-requires c =
    let is = c.remove-loan.ensures.value in
    let within = c.if-index-len.false in let counted = c.len.ensures in let long = c.self.inside.loans.ok.0 in
    out_at c.self.inside.store c.self.inside.loans.items c.self.inside.store.lents c.args.index c.remove-loan.result c.write_first.new.loan (omega (arith, within, counted, long))
    (c.write_first.ensures.name ∙ ap (λ (l : OnLoan). l.name) is) (c.write_first.ensures.start ∙ ap (λ (l : OnLoan). l.part.start) is) (c.write_first.ensures.long ∙ ap (λ (l : OnLoan). length l.part.bytes) is) c.self.invariant

pub invariant_of-self : goal.invariant_of-self
invariant_of-self c =
    let within = c.if-index-len.false in let counted = c.len.ensures in let long = c.self.inside.loans.ok.0 in
    let named = c.write_first.ensures.name ∙ ap (λ (l : OnLoan). l.name) c.remove-loan.ensures.value in
    subst (λ (loans : List OnLoan). AreAllOut c.put_back.new.self loans c.put_back.new.self.lents) (sym c.remove-loan.ensures.items)
    (one_less c.self.inside.store c.put_back.new.self c.self.inside.loans.items c.args.index c.remove-loan.result c.write_first.new.loan (omega (arith, within, counted, long)) named c.put_back.ensures.back c.self.invariant)
