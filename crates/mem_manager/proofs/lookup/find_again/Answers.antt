-- As for `find`; and a name that no slot has is of a fixed chunk, so it may be remembered.
use Rattle.mem_manager.proofs.Laws.{OnTrue_at, refused_unknown, remembered_held}
use Rattle.mem_manager.proofs.StepWords.{found_callers}
use Rattle.mem_manager.proofs.lookup.find_again.Goals as goal

pub returns-in-Some-clause-callers : goal.returns-in-Some-clause-callers
returns-in-Some-clause-callers c = found_callers c.callers.result c.holds.ensures
    c.in-Some.ensures.found c.callers.ensures.is c.callers.ensures.callers

pub returns-in-Some-clause-none : goal.returns-in-Some-clause-none
returns-in-Some-clause-none c = refused_unknown c.args.space.now.bytes c.args.name.0 c.in-Some.found
    c.callers.result c.holds.ensures.accepted c.in-Some.ensures.found c.callers.ensures.managers

pub returns-then-is_fixed-clause-callers : goal.returns-then-is_fixed-clause-callers
returns-then-is_fixed-clause-callers c = found_callers c.callers-then-is_fixed.result c.holds.ensures c.chunk.ensures c.callers-then-is_fixed.ensures.is c.callers-then-is_fixed.ensures.callers

pub returns-then-is_fixed-clause-none : goal.returns-then-is_fixed-clause-none
returns-then-is_fixed-clause-none c =
    refused_unknown c.args.space.now.bytes c.args.name.0 c.chunk.result c.callers-then-is_fixed.result c.holds.ensures.accepted c.chunk.ensures c.callers-then-is_fixed.ensures.managers

pub returns-then-is_fixed-clause-remembered : goal.returns-then-is_fixed-clause-remembered
returns-then-is_fixed-clause-remembered c =
    remembered_held c.args.space.now.bytes c.requires.known c.remember.ensures
    (OnTrue_at c.if-is_fixed.true c.is_fixed.ensures.there)
