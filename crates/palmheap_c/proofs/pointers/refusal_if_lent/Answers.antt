-- `refusal_if_lent` returns no refusal only if the bytes of the chunk are not out, by the laws of
-- PointerLaws.
use Rattle.palmheap_c.proofs.PointerLaws.{none_out_else}
use Rattle.palmheap_c.proofs.pointers.refusal_if_lent.Goals as goal

pub returns-in_default-clause-none : goal.returns-in_default-clause-none
returns-in_default-clause-none c = none_out_else c.args.store.now c.args.store.now c.args.name
    c.in-Err.refusal c.in-Err.ensures.does c.in_default.not-Lent
