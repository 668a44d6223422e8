use Rattle.std.proofs.Common.{◌∙◌, sym}
use Rattle.script_lines.specs.Views.{numberings}
use Rattle.script_lines.proofs.ScriptLaws.{read_line-words}
use Rattle.script_lines.proofs.reading.read_line.Goals as goal

pub returns-in-Ok-read_command-clause-ok : goal.returns-in-Ok-read_command-clause-ok
returns-in-Ok-read_command-clause-ok g c =
    read_line-words (numberings c.args.labels.now) c.args.text.now c.in-Word.word.now c.in-Word.rest.now c.in-Ok.count (sym c.if-is_passed_over.ensures) c.in-Word.ensures.0 c.in-Ok.ensures
    ∙ c.in-Ok-read_command.ensures.ok

pub returns-in-Err-read_command-clause-err : goal.returns-in-Err-read_command-clause-err
returns-in-Err-read_command-clause-err g c = λ other.
    read_line-words (numberings c.args.labels.now) c.args.text.now c.in-Word.word.now c.in-Word.rest.now c.in-Ok.count (sym c.if-is_passed_over.ensures) c.in-Word.ensures.0 c.in-Ok.ensures
    ∙ c.in-Err-read_command.ensures.err other
