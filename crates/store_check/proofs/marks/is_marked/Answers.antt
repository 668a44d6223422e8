-- `is_marked` returns whether a slot is marked, by the laws of MarkLaws.
use Rattle.store_check.proofs.Lemmas.{arith, nat_tests, marked_told}
use Rattle.store_check.proofs.marks.is_marked.Goals as goal

pub returns-then-number-marks : goal.returns-then-number-marks
returns-then-number-marks c xs has m =
    let told =
    marked_told xs c.args.marks.now _ c.in-Some.number c.in-Some.ensures.some (omega arith) m in (
      λ yes. told.0 (grind (arith, nat_tests)),
      λ some. (let marked = told.1 some in grind (arith, nat_tests)),
    )

pub returns-in-None : goal.returns-in-None
returns-in-None c xs has m = absurd (c.in-None.ensures.none has.0 has.1)
