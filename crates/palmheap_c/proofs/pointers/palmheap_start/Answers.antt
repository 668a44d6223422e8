-- `palmheap_start` returns the start from which all pointers are counted, by the laws of PlaceLaws.
use Rattle.palmheap_c.proofs.Words.{length, subst, Memory, AllLieIn}
use Rattle.palmheap_c.proofs.PlaceLaws.{at_places}
use Rattle.palmheap_c.proofs.pointers.palmheap_start.Goals as goal

pub returns-clause-pointers : goal.returns-clause-pointers
returns-clause-pointers c = at_places c.args.store.now.store c.start-at.result
    (subst (λ (m : Memory). AllLieIn c.start-at.result (length m.bytes) m.lents)
    c.as_mut.ensures.value c.start-at.ensures)
