-- `texts_are_read` states that the text of a database is read as that database.
use Rattle.file_parts.proofs.TextLaws as laws
use Rattle.file_parts.proofs.laws.texts_are_read.Goals as goal

pub returns : goal.returns
returns c = laws.texts_are_read
