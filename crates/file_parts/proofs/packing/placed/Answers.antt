-- `placed` returns an entry as it is written to the file: no record is busy, and its data begins at
-- an offset, by the laws of PackedEntries.
use Rattle.file_parts.proofs.AllLaws.{◌∙◌, entry_of, entry_placed}
use Rattle.file_parts.proofs.packing.placed.Goals as goal

pub returns-clause-is : goal.returns-clause-is
returns-clause-is c = λ bytes. c.idle_entry_at.ensures.is ∙ entry_placed bytes c.args.at _
    c.args.listed.now.part (entry_of c.args.listed.now.entry) (c.offset_of.ensures bytes)
