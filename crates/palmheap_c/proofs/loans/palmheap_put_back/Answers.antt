-- `palmheap_put_back` leaves the bytes of pointers out, by the laws of PointerLaws.
use Rattle.palmheap_c.proofs.Laws.{◌≡◌, ◌∙◌, ℕ, ap, refl, subst, sym, Memory, OnLoan, PutsBackInStore, pinned, puts_keep}
use Rattle.std.proofs.Common.{None}
use Rattle.palmheap_c.specs.declared.loans.KeptLoan.{KeptLoan}
use Rattle.palmheap_c.proofs.loans.palmheap_put_back.Goals as goal

pub returns-clause-holds : goal.returns-clause-holds
returns-clause-holds c = λ none.
    let named : c.of-back.result.name.0 ≡ c.args.loan.now.name = ap (λ (l : OnLoan). l.name.0)
    c.of-back.ensures ∙ ap (λ (k : KeptLoan). k.name) c.replace-part.ensures.value in
    puts_keep c.args.store.now.store
    (record { memory = c.put_back.new.self; pointers = c.args.store.now.store.pointers })
    c.of-back.result (subst (λ (m : Memory). PutsBackInStore m c.put_back.new.self c.of-back.result)
    c.as_mut.ensures.value c.put_back.ensures.back)
    (subst (λ (n : ℕ). pinned c.args.store.now.store.pointers n ≡ None) (sym named) none) refl
