-- `unlock_last` puts back bytes that are out.
use Rattle.palmheap_c.proofs.Words.{◌≡◌, ap, sym, subst, ◌∙◌, Some, Memory, Name, IsOutUnder, OnLoan, Opened, loan_of, pinned}
use Rattle.palmheap_c.proofs.kept.Held.unlock_last.Goals as goal

pub put_back-requires : goal.put_back-requires
put_back-requires c =
    let it = c.in-Some.pinned in
    let was = subst (λ (o : Opened). pinned o.pointers c.args.name ≡ Some it) c.self.view_is
    (sym c.in-Some.ensures.value) in
    let is = c.requires c.args.name it was in
    let memory : c.deref_mut.result.now ≡ c.args.self.now.memory =
    c.deref_mut.ensures.value ∙ ap (λ (o : Opened). o.memory) c.self.view_is in
    subst (λ (x : Memory × OnLoan). IsOutUnder x.0 x.1.name.0 x.1.part)
    (λ i. (sym memory i, sym c.into_inner.ensures i))
    (subst (λ (n : Name). IsOutUnder c.args.self.now.memory n.0 (loan_of it).part)
    (sym is.named_so) is.out)
