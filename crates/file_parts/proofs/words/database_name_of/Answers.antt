-- `database_name_of` returns the name of a database that a word spells, by the laws of Names.
use Rattle.file_parts.proofs.AllWords.{ap, ◌∙◌, option_and_then, name_if}
use Rattle.file_parts.proofs.Names.{name_tried}
use Rattle.file_parts.proofs.words.database_name_of.Goals as goal

pub returns : goal.returns
returns c = name_tried c.of_name.result _ _ c.decoded.ensures c.of_name.ensures
    ∙ ap (option_and_then name_if) c.in_ok-text.ensures
