-- `palmheap_take_out_also` leaves the bytes of pointers out, by the laws of PointerLaws.
use Rattle.palmheap_c.proofs.Laws.{refl, subst, Memory, TakesOutOfStore, as_name, takes_keep}
use Rattle.palmheap_c.proofs.loans.palmheap_take_out_also.Goals as goal

pub returns-in-Ok-clause-holds : goal.returns-in-Ok-clause-holds
returns-in-Ok-clause-holds c = takes_keep c.args.store.now.store
    (record { memory = c.take_out_also.new.self; pointers = c.args.store.now.store.pointers })
    (as_name c.args.name) c.in-Ok.taken
    (subst (λ (m : Memory). TakesOutOfStore m c.take_out_also.new.self
    (as_name c.args.name) c.in-Ok.taken) c.as_mut.ensures.value c.in-Ok.ensures.taken) refl
