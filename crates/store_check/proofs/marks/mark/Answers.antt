-- `mark` marks a slot once more, up to 2, by the laws of MarkLaws.
use Rattle.std.proofs.Common.{refl, arith}
use Rattle.store_check.proofs.MarkLaws.{marked_more, marked_full, marked_none}
use Rattle.store_check.proofs.marks.mark.Goals as goal

pub returns-then-marks-number-lt2 : goal.returns-then-marks-number-lt2
returns-then-marks-number-lt2 c xs m = marked_more xs c.args.marks.now _ _ c.in-Some.number
    c.in-Some.ensures.some (omega arith) refl c.if-marks-number-lt2.true m

pub returns-else-marks-number-lt2 : goal.returns-else-marks-number-lt2
returns-else-marks-number-lt2 c xs m = marked_full xs c.args.marks.now _ c.in-Some.number
    c.in-Some.ensures.some c.if-marks-number-lt2.false m

pub returns-else-number-marks : goal.returns-else-number-marks
returns-else-number-marks c xs m = marked_none xs c.args.marks.now c.args.slot (λ mark.
    (let word = mark.1 in let below = mark.2 in let here = c.in-Some.ensures.some in omega arith)) m

pub returns-in_default : goal.returns-in_default
returns-in_default c xs m =
    marked_none xs c.args.marks.now c.args.slot (λ mark. c.in_default.ensures.none mark.0 mark.1) m
