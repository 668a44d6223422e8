-- `palmheap_export` reports out of memory only if an allocation failed, by the laws of RefusalLaws.
use Rattle.palmheap_c.proofs.Laws.{Err, sym, ap, ◌∙◌, Refusal, is_no_memory}
use Rattle.palmheap_c.proofs.file_calls.palmheap_export.Goals as goal

pub returns-in-Err-clause-short : goal.returns-in-Err-clause-short
returns-in-Err-clause-short c = λ e. c.in-Err.ensures.no_memory
    (ap (λ (r : Refusal). Err r) (is_no_memory c.in-Err.refusal (sym c.refused.ensures.is ∙ e)))
