-- The number is raised first, and the entry moves then.
use Rattle.database_edits.proofs.Laws.{slides_then, none_slid, respells_twice}
use Rattle.database_edits.proofs.replacement.move_entry.Goals as goal

pub move_entry-requires-clause-from_inside : goal.move_entry-requires-clause-from_inside
move_entry-requires-clause-from_inside c = rw c.count_change.ensures.now c.requires.from_inside

pub move_entry-requires-clause-to_inside : goal.move_entry-requires-clause-to_inside
move_entry-requires-clause-to_inside c = rw c.count_change.ensures.now c.requires.to_inside

pub returns-clause-moved : goal.returns-clause-moved
returns-clause-moved c =
    respells_twice _ _ c.requires.opened.spells c.count_change.ensures.counted
    (rw c.count_change.ensures.now at c.move_entry.ensures.respells)

pub returns-clause-kept : goal.returns-clause-kept
returns-clause-kept c =
    slides_then _ _ _ (none_slid _ _ c.count_change.ensures.kept) c.move_entry.ensures.kept
