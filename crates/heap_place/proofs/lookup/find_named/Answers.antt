-- A name that has a chunk is in a slot, or is a fixed chunk's place.
use Rattle.heap_place.proofs.LookupLaws.{unheld}
use Rattle.heap_place.proofs.lookup.find_named.Goals as goal

pub returns-in-None-clause-none : goal.returns-in-None-clause-none
returns-in-None-clause-none c = unheld _ _ c.requires.heap.accepted c.in-None.ensures.none c.find_fixed.ensures.none
