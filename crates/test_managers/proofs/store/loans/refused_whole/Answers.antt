-- The store is the one whose bytes are out still, and the loan is all that was taken out.
use Rattle.std.proofs.Common.{◌≡◌, ◌∙◌, refl, sym, ap, subst}
use Rattle.heap_model.specs.Memory.{Memory}
use Rattle.heap_model.specs.Lending.{KeepsLoan}
use Rattle.laws_heap.proofs.KeptLoans.{keeps_itself}
use Rattle.palm_store.proofs.LoansBack.{all_back}
use Rattle.test_managers.proofs.store.loans.refused_whole.Goals as goal

pub returns : goal.returns
returns c =
    let same = c.not_migrated-both.ensures ∙ c.not_given_back-store.ensures in
    all_back c.args.store c.take_out.new.self c.not_migrated-both.result.1 c.put_back.new.self _ c.in_ok-loan.loan c.in_ok-loan.loan c.in_ok-loan.ensures.taken (ap (λ (m : Memory). m.lents) same)
    (subst (λ (m : Memory). KeepsLoan c.take_out.new.self m) (sym same) (keeps_itself c.take_out.new.self)) refl c.put_back.ensures.back ∙ c.requires
