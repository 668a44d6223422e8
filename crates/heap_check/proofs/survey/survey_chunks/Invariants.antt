-- The loop of `survey_chunks` keeps its invariant: the chunks before the offset are surveyed.
use Rattle.heap_check.proofs.Words.{◌-◌, length, map, HasSurveyed, AreNoted, KeepsBeyond}
use Rattle.heap_check.proofs.survey.survey_chunks.Given as goal

abbrev pub invariant-loop-at : goal.invariant-loop-at
invariant-loop-at g l = HasSurveyed l.region.bytes l.at l.survey (map g.M.Mark.says l.marks)
    × AreNoted g.M.Mark.notes l.region.bytes (map g.M.Mark.says l.marks)
    × KeepsBeyond l.region.bytes (map g.M.Mark.says l.fn.marks) (map g.M.Mark.says l.marks)

abbrev pub decreases-loop-at : goal.decreases-loop-at
decreases-loop-at g l = length l.region.bytes - l.at
