-- `keep_loan` lets the loan go if an allocation fails.
use Rattle.palmheap_c.proofs.Laws.{◌≡◌, ℕ, ap, subst, ◌∙◌, Memory, Unlock, OnLoan, DoesMemory, number_or_refused, Opened, Pinned, unlocks}
use Rattle.std.specs.Mem.{manually_drop_value}
use Rattle.palm_store.specs.Loans as stores
use Rattle.palmheap_c.proofs.kept.Held.keep_loan.Goals as goal

pub returns-in-Err-clause-refused : goal.returns-in-Err-clause-refused
returns-in-Err-clause-refused c =
    let memory : c.deref_mut.result.now ≡ c.args.self.now.memory =
    c.deref_mut.ensures.value ∙ ap (λ (o : Opened). o.memory) c.self.view_is in
    let loan : c.into_inner.result ≡ c.args.loan = c.into_inner.ensures
    ∙ ap (λ (p : ℕ × Pinned). manually_drop_value p.1.loan) c.in-Err.ensures.value_returned
    ∙ c.new_unchecked.ensures ∙ c.with_start-loan.ensures.same in (
      c.refused_entry.ensures.is,
      record {
        short = c.refused_entry.ensures.short;
        back = c.put_back.new.self;
        puts = subst (λ (x : Memory × OnLoan). stores.PutsBackInStore x.0 c.put_back.new.self x.1)
            (λ i. (memory i, loan i)) c.put_back.ensures.back;
        unlocks = unlocks c.put_back.new.self c.unlock.new.self c.args.name c.unlock.result
            (subst (λ (m : Memory). DoesMemory m (Unlock (record { 0 = c.args.name }))
            (number_or_refused c.unlock.result) c.unlock.new.self) c.deref_mut-in-Err.ensures.value
            c.unlock.ensures.does);
        same = c.in-Err.ensures.err ∙ ap (λ (o : Opened). o.pointers) c.self.view_is;
      },
    )
