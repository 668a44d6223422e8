-- `exact_texts_are_read` states that the text of an exact folder is read as what it says.
use Rattle.file_parts.proofs.ExactFolders.{text_back}
use Rattle.file_parts.proofs.laws.exact_texts_are_read.Goals as goal

pub returns : goal.returns
returns c = text_back
