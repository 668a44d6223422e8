-- `palmheap_lock_pointer` leaves the bytes of pointers out, also if it is refused, by the laws of
-- PointerLaws.
use Rattle.palmheap_c.proofs.Laws.{ℕ, subst, sym, number_of, Opened, LocksPointer, RefusesPointer, lock_keeps, refused_keeps}
use Rattle.palmheap_c.proofs.pointers.palmheap_lock_pointer.Goals as goal

pub returns-in-Ok-clause-holds : goal.returns-in-Ok-clause-holds
returns-in-Ok-clause-holds c = lock_keeps c.args.store.now.store c.lock_pointer.new.self c.args.name
    c.in-Ok.given.0 c.in-Ok.given.1 (subst (λ (o : Opened). LocksPointer o c.lock_pointer.new.self
    c.args.name c.in-Ok.given.0 c.in-Ok.given.1) c.held.ensures.value c.in-Ok.ensures.locks)

pub returns-in-Err-clause-refused : goal.returns-in-Err-clause-refused
returns-in-Err-clause-refused c = λ some.
    subst (λ (n : ℕ). RefusesPointer c.args.store.now.store c.lock_pointer.new.self c.args.name n)
    (sym c.refused.ensures.is) (subst (λ (o : Opened). RefusesPointer o c.lock_pointer.new.self
    c.args.name (number_of c.in-Err.refusal)) c.held.ensures.value c.in-Err.ensures.refused)

pub returns-in-Err-clause-holds : goal.returns-in-Err-clause-holds
returns-in-Err-clause-holds c =
    refused_keeps c.args.store.now.store c.lock_pointer.new.self c.args.name
    (number_of c.in-Err.refusal) (subst (λ (o : Opened). RefusesPointer o c.lock_pointer.new.self
    c.args.name (number_of c.in-Err.refusal)) c.held.ensures.value c.in-Err.ensures.refused)
