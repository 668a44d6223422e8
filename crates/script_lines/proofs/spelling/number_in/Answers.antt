use Rattle.std.proofs.Common.{◌^◌, drop, ap, sym, ◌∙◌, arith}
use Rattle.script_lines.specs.Spellings.{below}
use Rattle.script_lines.proofs.NumberLaws.{below_beyond}
use Rattle.script_lines.proofs.spelling.number_in.Goals as goal

pub returns-then-number : goal.returns-then-number
returns-then-number c =
    sym (ap (below (2 ^ 32)) c.loop-digit.invariant.spelled ∙ below_beyond c.args.base c.loop-digit.number (2 ^ 32) (drop c.loop-digit.digit-index c.args.digits.now) c.requires.least (omega arith))
