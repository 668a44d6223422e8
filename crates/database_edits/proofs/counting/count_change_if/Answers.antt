-- If nothing is asked, nothing changes.
use Rattle.database_edits.proofs.Laws.{stays, managers}
use Rattle.database_edits.proofs.counting.count_change_if.Goals as goal

pub returns-then-counts-clause-counted : goal.returns-then-counts-clause-counted
returns-then-counts-clause-counted c = rw c.if-counts.true c.count_change.ensures.counted

pub returns-else-counts-clause-counted : goal.returns-else-counts-clause-counted
returns-else-counts-clause-counted c = rw c.if-counts.false (stays
    (managers _ _ c.requires.opened.spells) c.requires.opened.spells.spelled.bytes_are).leaves
