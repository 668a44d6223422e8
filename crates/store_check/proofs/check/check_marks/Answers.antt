-- `check_marks` makes enough clear marks, and returns no other fault if memory lacks, by the laws
-- of CheckLaws.
use Rattle.store_check.proofs.Lemmas.{[], length, sym, ap, subst, arith, IfErr-at_err, FirstBrought, AreMarks, marked_faults, marked_not_memory}
use Rattle.store_check.proofs.check.check_marks.Goals as goal

pub check_with_marks-requires-clause-room : goal.check_with_marks-requires-clause-room
check_with_marks-requires-clause-room g c number s =
    let room = c.mark_count.ensures.room number s in
    let len = ap length c.deref_mut.ensures.value in
    let size = c.in-Ok.ensures.len in
    omega arith

pub check_with_marks-requires-clause-clear : goal.check_with_marks-requires-clause-clear
check_with_marks-requires-clause-clear g c =
    subst (AreMarks []) (sym c.deref_mut.ensures.value) c.in-Ok.ensures.clear

pub returns-clause-no_memory : goal.returns-clause-no_memory
returns-clause-no_memory g c e = absurd (marked_not_memory c.args.region.now.bytes (IfErr-at_err
    (FirstBrought (marked_faults c.args.region.now.bytes)) e c.check_with_marks.ensures.fault))
