-- The chunk at a place is a caller's, or no caller's chunk is there.
use Rattle.mem_manager.proofs.Laws.{arith, found_there, nowhere, managers_there}
use Rattle.mem_manager.proofs.lookup.name_at.Goals as goal

pub returns-in-Some-clause-there : goal.returns-in-Some-clause-there
returns-in-Some-clause-there c =
    let found = c.in-Some.ensures.found in
    found_there c.holds.ensures.accepted found c.in-Some.ensures.there (omega arith)

pub returns-in_default-clause-none : goal.returns-in_default-clause-none
returns-in_default-clause-none c =
    let found = c.in-Some.ensures.found in
    managers_there c.holds.ensures.accepted found c.in-Some.ensures.there (omega arith)

pub returns-in_default-2-clause-none : goal.returns-in_default-2-clause-none
returns-in_default-2-clause-none c =
    nowhere c.args.place.0 c.holds.ensures.accepted c.in_default.ensures.none
