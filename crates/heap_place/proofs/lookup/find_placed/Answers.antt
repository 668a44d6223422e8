-- A chunk at a place is lent, in the slot that it names, or fixed.
use Rattle.heap_place.proofs.Laws.{Option, Some, None, IfNone, ℕ, List, HeapAccepted, chunks_of, Found, NothingAt, NoneFixedAs, NoSlotHolds, nothing_at}
use Rattle.heap_place.proofs.lookup.find_placed.Goals as goal

neither : {image : List ℕ} (place : ℕ) (found : Option Found) → HeapAccepted image → NoSlotHolds image place → IfNone found (NoneFixedAs image place (chunks_of image)) → IfNone found (NothingAt image place)
neither place None h slots fixed = nothing_at place h slots fixed
neither place (Some found) h slots fixed = tt

pub returns-in-None-clause-none : goal.returns-in-None-clause-none
returns-in-None-clause-none c = neither _ _ c.requires.heap.accepted c.in-None.ensures.none c.find_fixed.ensures.none
