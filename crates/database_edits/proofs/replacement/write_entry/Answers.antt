-- The number is raised first, and the entry is written then.
use Rattle.database_edits.proofs.Laws.{entry_of, writes_then, respells_twice, counted_same}
use Rattle.database_edits.proofs.replacement.write_entry.Goals as goal

pub write_entry-requires-clause-inside : goal.write_entry-requires-clause-inside
write_entry-requires-clause-inside c = rw (
  c.count_change_if.ensures.now,
  (counted_same c.args.counts c.args.index (entry_of c.args.entry) _).0,
) c.requires.inside

pub write_entry-requires-clause-kind : goal.write_entry-requires-clause-kind
write_entry-requires-clause-kind c = rw (
  c.count_change_if.ensures.now,
  (counted_same c.args.counts c.args.index (entry_of c.args.entry) _).1,
) c.requires.kind

pub returns-clause-written : goal.returns-clause-written
returns-clause-written c =
    respells_twice _ _ c.requires.opened.spells c.count_change_if.ensures.counted
    (rw (
      c.count_change_if.ensures.now,
      (counted_same c.args.counts c.args.index (entry_of c.args.entry) _).2,
    )
    at c.write_entry.ensures.respells)

pub returns-clause-kept : goal.returns-clause-kept
returns-clause-kept c =
    writes_then _ _ _ c.count_change_if.ensures.kept c.write_entry.ensures.kept
