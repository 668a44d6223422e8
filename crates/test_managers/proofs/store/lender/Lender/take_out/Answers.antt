-- One loan more is out, or it is put back at once.
use Rattle.std.proofs.Common.{List, ◌∷◌, sym, ap, subst, arith}
use Rattle.mem_manager.specs.Loans.{OnLoan}
use Rattle.test_managers.specs.Lenders.{AreAllOut}
use Rattle.test_managers.proofs.LoansOut.{one_more, one_less}
use Rattle.test_managers.proofs.store.lender.Lender.take_out.Goals as goal

pub invariant_of-self-in-Ok-insert : goal.invariant_of-self-in-Ok-insert
invariant_of-self-in-Ok-insert c =
    subst (λ (loans : List OnLoan). AreAllOut c.taken_out.new.store loans c.taken_out.new.store.lents) (sym c.in-Ok-insert.ensures.items)
    (one_more c.self.inside.store c.taken_out.new.store c.args.name c.in-Ok.loan c.self.inside.loans.items c.in-Ok.ensures.taken c.self.invariant)

pub invariant_of-self-in-Err-insert : goal.invariant_of-self-in-Err-insert
invariant_of-self-in-Err-insert c =
    let out = one_more c.self.inside.store c.taken_out.new.store c.args.name c.in-Ok.loan c.self.inside.loans.items c.in-Ok.ensures.taken c.self.invariant in
    subst (λ (loans : List OnLoan). AreAllOut c.put_back.new.self loans c.put_back.new.self.lents) (sym c.in-Err-insert.ensures.items)
    (one_less c.taken_out.new.store c.put_back.new.self (c.in-Ok.loan ∷ c.self.inside.loans.items) 0 c.in-Ok.loan c.in-Err-insert.refused.value (omega arith) (ap (λ (l : OnLoan). l.name) c.in-Err-insert.ensures.value_returned) c.put_back.ensures.back out)
