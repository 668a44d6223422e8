-- All loans stay.
use Rattle.std.proofs.Common.{ap}
use Rattle.heap_model.specs.Memory.{Memory}
use Rattle.test_managers.proofs.LoansOut.{all_called}
use Rattle.test_managers.proofs.store.lender.Lender.call.Goals as goal

pub invariant_of-self : goal.invariant_of-self
invariant_of-self c =
    let does = c.do_call.ensures.does in
    all_called c.self.inside.store c.do_call.new.store c.self.inside.loans.items (ap (λ (m : Memory). m.lents) does.rest) does.loan c.self.invariant
