-- `add` marks the slot that holds the place of a movable chunk, by the contracts of its calls.
use Rattle.heap_check.proofs.Words.{ℕ, map, subst, sym, Header, AddsMark, IsHolder, MarksBody}
use Rattle.heap_check.proofs.survey.Survey.add.Goals as goal

pub returns-in-Movable-clause-marked : goal.returns-in-Movable-clause-marked
returns-in-Movable-clause-marked g c =
    let image = c.args.region.now.bytes in
    let marks = map g.M.Mark.says c.mark_holder-holds.new.marks in
    subst (λ (h : Header). MarksBody g.M.Mark.notes image c.args.at h
    (map g.M.Mark.says c.args.marks.now) marks) (sym c.in-Movable.is)
    (subst (λ (mark : ℕ). AddsMark image (IsHolder image c.in-Movable.slot c.args.at) mark
    (map g.M.Mark.says c.args.marks.now) marks) c.of.ensures c.mark_holder-holds.ensures.marked)
