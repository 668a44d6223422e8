use Rattle.script_lines.specs.Reading.{words_in}
use Rattle.hints.specs.FaultyLines.{first_word_of}
use Rattle.hints.proofs.Hints.{after_command, after_no_command}
use Rattle.hints.proofs.faulty_lines.command_words.Goals as goal

pub returns-in-Some-clause-texts : goal.returns-in-Some-clause-texts
returns-in-Some-clause-texts c =
    after_command (first_word_of (words_in c.args.line.now)) c.first_word.result.now c.find_command.result c.in-Some.command c.row_of.result.kinds.now c.first_word.ensures c.find_command.ensures c.in-Some.is c.row_of.ensures.kinds

pub returns-in-None-clause-texts : goal.returns-in-None-clause-texts
returns-in-None-clause-texts c =
    after_no_command (first_word_of (words_in c.args.line.now)) c.first_word.result.now c.find_command.result c.first_word.ensures c.find_command.ensures c.in-None.is
