use Rattle.std.proofs.Common.{◌≡◌, ◌≤◌, ◌+◌, ◌++◌, length}
use Rattle.std.specs.Str.Lines.{lines}
use Rattle.hints.specs.Imports.{line_numbers}
use Rattle.hints.proofs.numbers.line_numbers.Given as goal

-- the numbers so far, and those of the rest
abbrev pub invariant-loop-rest : goal.invariant-loop-rest
invariant-loop-rest g l = record {
  numbers : line_numbers 1 (lines l.text) ≡ l.numbers.items ++ line_numbers (l.number + 1) (lines l.rest);
  within : l.number + length l.rest ≤ length l.text;
}

abbrev pub decreases-loop-rest : goal.decreases-loop-rest
decreases-loop-rest g l = length l.rest
