use Rattle.std.proofs.Common.{◌≡◌, ◌++◌, length}
use Rattle.hints.specs.LineEnds.{IsConverted, with_returns}
use Rattle.hints.proofs.line_ends.without_returns.Given as goal

-- What was read so far is what a transfer makes of these bytes. If a transfer makes the file, it
-- makes the rest too.
abbrev pub invariant-loop-rest : goal.invariant-loop-rest
invariant-loop-rest g l = record {
  read : l.file ≡ with_returns l.original.items ++ l.rest;
  left : IsConverted l.file → IsConverted l.rest;
}

abbrev pub decreases-loop-rest : goal.decreases-loop-rest
decreases-loop-rest g l = length l.rest
