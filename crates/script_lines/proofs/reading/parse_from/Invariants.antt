use Rattle.std.proofs.Common.{◌≡◌, ◌≤◌, ◌+◌, length}
use Rattle.std.specs.Str.Lines.{lines}
use Rattle.script_lines.specs.Views.{numberings}
use Rattle.script_lines.specs.Reading.{read_lines, read_script}
use Rattle.script_lines.proofs.reading.parse_from.Given as goal

-- what is read goes on from the lines so far
abbrev pub invariant-loop-rest : goal.invariant-loop-rest
invariant-loop-rest g l = record {
  goes_on : read_script l.text ≡ read_lines (l.number + 1) (numberings l.labels) l.script (lines l.rest);
  within : l.number + length l.rest ≤ length l.text;
}

abbrev pub decreases-loop-rest : goal.decreases-loop-rest
decreases-loop-rest g l = length l.rest
