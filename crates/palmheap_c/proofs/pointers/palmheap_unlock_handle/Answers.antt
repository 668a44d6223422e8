-- `palmheap_unlock_handle` leaves the bytes of the other pointers out, by the laws of PointerLaws.
use Rattle.palmheap_c.proofs.Laws.{sym, subst, Opened, HoldsPointers, UnlocksPointer, unlock_code, unlock_pointer_keeps}
use Rattle.palmheap_c.proofs.pointers.palmheap_unlock_handle.Goals as goal

pub unlock_pointer-requires : goal.unlock_pointer-requires
unlock_pointer-requires c =
    subst (λ (o : Opened). HoldsPointers o) (sym c.held.ensures.value) c.requires

pub returns-in-Ok-clause-holds : goal.returns-in-Ok-clause-holds
returns-in-Ok-clause-holds c = unlock_pointer_keeps c.args.store.now.store c.unlock_pointer.new.self
    c.args.name (unlock_code c.unlock_pointer.result)
    (subst (λ (o : Opened). UnlocksPointer o c.unlock_pointer.new.self c.args.name
    (unlock_code c.unlock_pointer.result)) c.held.ensures.value c.unlock_pointer.ensures) c.requires

pub returns-in-Err-LockRefused-clause-holds : goal.returns-in-Err-LockRefused-clause-holds
returns-in-Err-LockRefused-clause-holds c = unlock_pointer_keeps c.args.store.now.store
    c.unlock_pointer.new.self c.args.name (unlock_code c.unlock_pointer.result)
    (subst (λ (o : Opened). UnlocksPointer o c.unlock_pointer.new.self c.args.name
    (unlock_code c.unlock_pointer.result)) c.held.ensures.value c.unlock_pointer.ensures) c.requires
