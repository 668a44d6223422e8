-- `put_part` writes the end of the line of an entry: the name of its part.
use Rattle.file_parts.proofs.AllLaws.{part_joined}
use Rattle.file_parts.proofs.text.put_part.Goals as goal

pub returns-in-Some : goal.returns-in-Some
returns-in-Some g c = λ file. rw (part_joined c.args.index c.from-index.result file c.args.block
    c.in-Some.field-0 c.from-index.ensures c.in-Some.is) at c.put_pieces-in-Some.ensures
