-- `survey_chunks` surveys all chunks of an image, by the laws of SurveyLaws.
use Rattle.heap_check.proofs.Laws.{◌+◌, ◌≤◌, [], length, map, refl, ◌∙◌, subst, sym, arith, length-map, slots_total, HasSurveyed, none_at}
use Rattle.heap_check.proofs.SurveyLaws.{Adds, surveys_none, owners_more, walked_more, walked_all}
use Rattle.heap_check.proofs.survey.survey_chunks.Goals as goal

pub loop-at-init : goal.loop-at-init
loop-at-init g c =
    let image = c.args.region.now.bytes in
    let marks = map g.M.Mark.says c.args.marks.now in
    let room : slots_total image ≤ length marks = subst (λ n. slots_total image ≤ n)
    (sym (length-map c.args.marks.now g.M.Mark.says)) c.requires.room in
    let none = c.new-survey.ensures in
    let start = c.area_start-at.ensures in
    let inside = c.requires.inside in
    let movable = none.movable in
    let fixed = none.fixed in
    let free = none.free in (
      record {
        chunks = [];
        spelled = sym start;
        surveys = surveys_none c.args.region.now.bytes c.new-survey.result marks room
            c.requires.clear none.movable none.fixed none.free none.without_slot none.bad_owner;
        counts = omega arith;
        inside = omega arith;
      },
      λ slot number s marked.
          absurd (none_at c.args.region.now.bytes marks room c.requires.clear slot number s marked),
      λ number far. refl,
    )

pub loop-at-preserved : goal.loop-at-preserved
loop-at-preserved g c =
    let says = g.M.Mark.says in
    let notes = g.M.Mark.notes in
    let image = c.args.region.now.bytes in
    let at = c.loop-at.at in
    let adds : Adds notes image at c.in-Some.header c.loop-at.survey c.add.new.self
    (map g.M.Mark.says c.loop-at.marks) (map g.M.Mark.says c.add.new.marks) = record {
      movable = c.add.ensures.movable;
      fixed = c.add.ensures.fixed;
      free = c.add.ensures.free;
      without_slot = c.add.ensures.without_slot;
      bad_owner = c.add.ensures.bad_owner;
      marked = c.add.ensures.marked;
    } in (
      subst (λ n. HasSurveyed image (at + n) c.add.new.self (map g.M.Mark.says c.add.new.marks))
          (sym c.in-Some.ensures.size) (walked_more notes image at c.in-Some.header _ _ _ _
          c.loop-at.invariant.0 c.in-Some.ensures.found adds),
      owners_more notes image at c.in-Some.header (map g.M.Mark.says c.loop-at.marks)
          (map g.M.Mark.says c.add.new.marks) c.in-Some.ensures.found c.add.ensures.marked
          c.loop-at.invariant.1,
      λ number far. c.add.ensures.marked.beyond number far ∙ c.loop-at.invariant.2 number far,
    )

pub returns-clause-surveyed : goal.returns-clause-surveyed
returns-clause-surveyed g c = walked_all c.args.region.now.bytes c.loop-at.at c.loop-at.survey
    (map g.M.Mark.says c.loop-at.marks) (omega arith) c.loop-at.invariant.0
