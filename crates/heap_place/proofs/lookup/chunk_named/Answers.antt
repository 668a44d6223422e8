-- If no slot has the name, it is a fixed chunk's.
use Rattle.heap_place.proofs.Laws.{refl, is_fixed}
use Rattle.heap_place.proofs.lookup.chunk_named.Goals as goal

pub fixed_at-requires-clause-fixed : goal.fixed_at-requires-clause-fixed
fixed_at-requires-clause-fixed c = is_fixed _ _ c.requires.heap.accepted refl c.requires.there c.in-None.ensures.none
