-- `palmheap_import` does that call on the store, and reports out of memory only if an allocation
-- failed.
use Rattle.palmheap_c.proofs.Laws.{refl, Err, sym, ap, ◌∙◌, Refusal, is_no_memory, is_done}
use Rattle.palmheap_c.proofs.file_calls.palmheap_import.Goals as goal

pub returns-in-Ok-clause-does : goal.returns-in-Ok-clause-does
returns-in-Ok-clause-does c = is_done (rw c.as_mut.ensures.value at c.in-Ok.ensures.does) refl

pub returns-in-Err-clause-short : goal.returns-in-Err-clause-short
returns-in-Err-clause-short c = λ e. c.in-Err.ensures.no_memory
    (ap (λ (r : Refusal). Err r) (is_no_memory c.in-Err.refusal (sym c.refused.ensures.is ∙ e)))
