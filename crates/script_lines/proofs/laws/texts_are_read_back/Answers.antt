use Rattle.script_lines.proofs.ReadBack.{texts_are_words, texts_are_read_back}
use Rattle.script_lines.proofs.laws.texts_are_read_back.Goals as goal

pub returns : goal.returns
returns c = record { words = texts_are_words; texts = texts_are_read_back }
