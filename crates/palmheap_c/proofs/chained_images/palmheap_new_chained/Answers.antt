-- `palmheap_new_chained` reports out of memory only if an allocation failed, by the laws of
-- ChainLaws.
use Rattle.palmheap_c.proofs.ChainLaws.{no_memory_for}
use Rattle.palmheap_c.proofs.chained_images.palmheap_new_chained.Goals as goal

pub returns-in-Err-clause-short : goal.returns-in-Err-clause-short
returns-in-Err-clause-short c =
    no_memory_for _ c.args.slots c.in-Err.answer c.in-Err.ensures.refused
