-- `read_database` reads the lines of a text that are left: those of the header, and those of the
-- entries, by the laws of ReadTexts.
use Rattle.file_parts.proofs.AllWords.{entries_listed}
use Rattle.file_parts.proofs.ReadTexts.{entries_faulty, listed_read}
use Rattle.file_parts.proofs.listed.read_database.Goals as goal

pub returns-in-Ok-read_entries-clause-ok : goal.returns-in-Ok-read_entries-clause-ok
returns-in-Ok-read_entries-clause-ok g c = listed_read c.args.lines.now c.read_head.new.lines
    c.in-Ok.head _ (entries_listed c.in-Ok-read_entries.entries.items) _ c.in-Ok.ensures
    c.has_resources-resources.ensures c.in-Ok-read_entries.ensures.ok c.header_of.ensures.is

pub returns-in-Err-read_entries-clause-err : goal.returns-in-Err-read_entries-clause-err
returns-in-Err-read_entries-clause-err g c = λ other.
    entries_faulty c.args.lines.now c.read_head.new.lines c.in-Ok.head _ c.in-Err-read_entries.fault
    c.in-Ok.ensures c.has_resources-resources.ensures (c.in-Err-read_entries.ensures.err other)
