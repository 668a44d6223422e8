-- The bytes that are written put the entry in the other's place.
use Rattle.database_edits.proofs.Words.{◌+◌, ◌∙◌, arith, sym, entry_of}
use Rattle.database_edits.proofs.Entries.{entry_written, inside_body}
use Rattle.database_edits.proofs.writing.write_entry.Goals as goal

pub put_entry-requires-clause-inside : goal.put_entry-requires-clause-inside
put_entry-requires-clause-inside c = inside_body (c.args.index + 1) c.requires.opened.spells
    (c.is_resource.ensures ∙ c.requires.kind) (omega arith)

pub put_entry-requires-clause-kind : goal.put_entry-requires-clause-kind
put_entry-requires-clause-kind c = sym c.is_resource.ensures

pub returns-clause-respells : goal.returns-clause-respells
returns-clause-respells c =
    entry_written c.args.index (entry_of c.args.entry) c.requires.opened.spells c.requires.inside
    (c.is_resource.ensures ∙ c.requires.kind) c.put_entry.ensures.entry c.put_entry.ensures.writes
