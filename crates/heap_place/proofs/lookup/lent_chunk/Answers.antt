-- The header of a lent body is that of a movable chunk in its slot, or of a fixed one.
use Rattle.heap_place.proofs.Laws.{arith, sym, ◌∙◌, header_read}
use Rattle.heap_place.proofs.LentChunks.{lent_low, lent_misses, lent_has_chunk, lent_movable_one, lent_fixed_one, fixed_at_place}
use Rattle.heap_place.proofs.lookup.lent_chunk.Goals as goal

pub overflow_sub-place : goal.overflow_sub-place
overflow_sub-place c = lent_low c.args.region.now c.args.place.0 c.requires.heap.lent c.requires.begins

pub at-header-requires : goal.at-header-requires
at-header-requires c =
    record { chunk = lent_has_chunk _ c.requires.heap c.requires.begins; small = omega arith; misses = lent_misses _ c.requires.heap c.requires.begins }

pub fixed_at-requires-clause-fixed : goal.fixed_at-requires-clause-fixed
fixed_at-requires-clause-fixed c =
    lent_fixed_one c.args.place c.requires.heap c.requires.begins
    (header_read c.at-header.ensures) (sym c.as_movable.ensures ∙ c.in-None.is)

pub returns-in-Some-clause-found : goal.returns-in-Some-clause-found
returns-in-Some-clause-found c =
    lent_movable_one c.args.place c.requires.heap c.requires.begins
    (header_read c.at-header.ensures) (sym c.as_movable.ensures ∙ c.in-Some.is)

pub returns-in-None-clause-found : goal.returns-in-None-clause-found
returns-in-None-clause-found c = rw (← c.fixed_at.ensures.name_is) at c.fixed_at.ensures

pub returns-in-None-clause-there : goal.returns-in-None-clause-there
returns-in-None-clause-there c =
    fixed_at_place c.requires.heap.accepted
    (lent_fixed_one c.args.place c.requires.heap c.requires.begins
    (header_read c.at-header.ensures) (sym c.as_movable.ensures ∙ c.in-None.is)) c.fixed_at.ensures
