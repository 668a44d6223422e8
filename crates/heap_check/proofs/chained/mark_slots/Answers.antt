-- `mark_slots` marks all slots that are in use, by the laws of ChainedLaws.
use Rattle.heap_check.proofs.Laws.{sym, subst, ℕ, arith, MarksBefore, marks_none, marks_all}
use Rattle.heap_check.proofs.chained.mark_slots.Goals as goal

pub loop-marks-init : goal.loop-marks-init
loop-marks-init c = record {
  row = c.of-row.ensures.row;
  marked = subst (λ (n : ℕ). MarksBefore c.args.region.now.bytes n c.args.marks.now)
      (sym c.of-row.ensures.start)
      (marks_none c.args.region.now.bytes c.args.marks.now c.requires.clear);
  room = c.requires.room;
}

pub loop-marks-preserved : goal.loop-marks-preserved
loop-marks-preserved c =
    let room = c.loop-marks.invariant.room in
    let len = c.mark_row.ensures.len in
    record {
      row = c.behind-row.ensures.is_row;
      marked = subst (λ (n : ℕ). MarksBefore c.args.region.now.bytes n c.mark_row.new.marks)
          (sym c.behind-row.ensures.start) c.mark_row.ensures.marked;
      room = omega arith;
    }

pub returns-clause-marked : goal.returns-clause-marked
returns-clause-marked c = marks_all c.args.region.now.bytes c.loop-marks.row c.mark_row-2.new.marks
    c.loop-marks.invariant.row (sym c.loop-marks-test.ensures) c.mark_row-2.ensures.marked
