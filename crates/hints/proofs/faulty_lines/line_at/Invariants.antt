use Rattle.std.proofs.Common.{◌≡◌, length}
use Rattle.std.specs.Prelude.{slice_get}
use Rattle.std.specs.Str.Lines.{lines}
use Rattle.hints.specs.FaultyLines.{item_numbered}
use Rattle.hints.proofs.faulty_lines.line_at.Given as goal

-- the line that is wanted is among the rest
abbrev pub invariant-loop-rest : goal.invariant-loop-rest
invariant-loop-rest l = item_numbered (lines l.text) l.number ≡ slice_get (lines l.rest) l.left

abbrev pub decreases-loop-rest : goal.decreases-loop-rest
decreases-loop-rest l = length l.rest
