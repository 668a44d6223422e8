-- An entry that is put in where it stands, or in front of the next one, stays there.
use Rattle.database_edits.proofs.Words.{arith}
use Rattle.database_edits.proofs.MovedEntries.{went_nowhere}
use Rattle.database_edits.proofs.moving.move_entry.Goals as goal

pub returns-else-from-to-clause-respells : goal.returns-else-from-to-clause-respells
returns-else-from-to-clause-respells c = went_nowhere c.args.from c.args.to
    c.requires.opened.spells c.requires.from_inside (omega arith) (omega arith)
