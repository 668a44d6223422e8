-- `is_marked` returns whether a slot is free or marked, by the laws of SlotLaws.
use Rattle.heap_check.proofs.Laws.{ℕ, map, sym, subst, ◌∙◌, stands_slot, slot_within, one_same, MarkedAt, said}
use Rattle.heap_check.proofs.slots.is_marked.Goals as goal

pub get_u32-requires : goal.get_u32-requires
get_u32-requires g c = slot_within c.args.region.now c.args.slot c.requires.has_table
    (stands_slot c.args.region.now.bytes c.args.slot c.args.number c.requires.stands)

pub returns-else-get_u32-eq0 : goal.returns-else-get_u32-eq0
returns-else-get_u32-eq0 g c =
    let says = g.M.Mark.says in
    let marks = c.args.marks.now in
    let here = said says marks c.args.number c.index-marks-number.result c.index-marks-number.is
    c.requires.room in (
      λ set used k stands. subst (λ (n : ℕ). MarkedAt (map says marks) n)
          (one_same c.args.region.now.bytes c.args.slot c.args.number k c.requires.plain
          c.requires.stands stands) (λ none. c.is_set.ensures.0 set (sym here ∙ none)),
      λ is. c.is_set.ensures.1 (λ none. is (λ empty. c.if-get_u32-eq0.false (c.get_u32.ensures
          ∙ empty)) c.args.number c.requires.stands (here ∙ none)),
    )
