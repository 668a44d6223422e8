-- `lock_first` gives the first pointer to a chunk, by the laws of PointerLaws.
use Rattle.palmheap_c.proofs.Laws.{◌≡◌, ℕ, ap, subst, ◌∙◌, place_of, HasBytesOut, Memory, FirstBrings, Lock, Locked, also_out_checks, DoesMemory, as_name, Opened, first_given, first_refused, never_refused}
use Rattle.palm_store.specs.Loans as stores
use Rattle.palmheap_c.proofs.kept.Held.lock_first.Goals as goal

pub returns-in-Ok-clause-locks : goal.returns-in-Ok-clause-locks
returns-in-Ok-clause-locks c =
    let place = c.in_default-lock.field-0.place in
    let count = c.in_default-lock.field-0.count in
    let out : Opened =
    record { memory = c.take_out_also.new.self; pointers = c.self.inside.pointers.entries } in
    let locks = subst (λ (m : Memory). DoesMemory m (Lock (as_name c.args.name))
    (Locked place count) c.lock.new.self) (c.deref_mut.ensures.value
    ∙ ap (λ (o : Opened). o.memory) c.self.view_is) c.in_default-lock.ensures.does in
    let takes = subst (λ (m : Memory). stores.TakesOutOfStore m c.take_out_also.new.self
    (as_name c.args.name) c.in-Ok.loan) c.deref_mut-2.ensures.value c.in-Ok.ensures.taken in
    first_given c.args.self.now out c.keep_loan.new.self c.args.name c.lock.new.self place count
    c.in-Ok.loan locks takes (ap (λ (o : Opened). o.pointers) c.self.view_is) c.keep_loan.result
    c.requires c.keep_loan.ensures.keeps

pub returns-in-Ok-clause-refused : goal.returns-in-Ok-clause-refused
returns-in-Ok-clause-refused c =
    let place = c.in_default-lock.field-0.place in
    let count = c.in_default-lock.field-0.count in
    let out : Opened =
    record { memory = c.take_out_also.new.self; pointers = c.self.inside.pointers.entries } in
    let locks = subst (λ (m : Memory). DoesMemory m (Lock (as_name c.args.name))
    (Locked place count) c.lock.new.self) (c.deref_mut.ensures.value
    ∙ ap (λ (o : Opened). o.memory) c.self.view_is) c.in_default-lock.ensures.does in
    let takes = subst (λ (m : Memory). stores.TakesOutOfStore m c.take_out_also.new.self
    (as_name c.args.name) c.in-Ok.loan) c.deref_mut-2.ensures.value c.in-Ok.ensures.taken in
    first_refused c.args.self.now out c.keep_loan.new.self c.args.name c.lock.new.self place count
    c.in-Ok.loan locks takes (ap (λ (o : Opened). o.pointers) c.self.view_is) c.keep_loan.result
    c.requires c.keep_loan.ensures.refused

pub returns-in-Err-take_out_also-clause-refused : goal.returns-in-Err-take_out_also-clause-refused
returns-in-Err-take_out_also-clause-refused c =
    let place = c.in_default-lock.field-0.place in
    let count = c.in_default-lock.field-0.count in
    let refusal = c.in-Err-take_out_also.refusal in
    let locks = subst (λ (m : Memory). DoesMemory m (Lock (as_name c.args.name))
    (Locked place count) c.lock.new.self) (c.deref_mut.ensures.value
    ∙ ap (λ (o : Opened). o.memory) c.self.view_is) c.in_default-lock.ensures.does in
    absurd (never_refused c.args.self.now.memory c.lock.new.self c.args.name place count refusal
    locks (subst (λ (m : Memory). (other : ℕ) → place_of c.lock.new.self.bytes other ≡ place_of
    m.bytes other) (c.deref_mut.ensures.value ∙ ap (λ (o : Opened). o.memory) c.self.view_is)
    c.lock.ensures.unmoved) (subst (λ (m : Memory). HasBytesOut m c.args.name → ⊥)
    (c.deref.ensures ∙ ap (λ (o : Opened). o.memory) c.self.view_is) c.in_default.ensures.none)
    (subst (λ (m : Memory). FirstBrings (also_out_checks m c.args.name) refusal)
    c.deref_mut-2.ensures.value c.in-Err-take_out_also.ensures.why))
