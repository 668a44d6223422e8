-- `mark_holder` marks a slot exactly if it holds the place of the chunk, by the laws of SlotLaws.
use Rattle.heap_check.proofs.Laws.{ℕ, ◌<◌, map, arith, sym, ap, subst, ◌∙◌, u32_at, IsSlot, slots_total, stands_slot, IsHolder, holds_true, holds_false, mark_set, mark_none}
use Rattle.heap_check.proofs.survey.mark_holder.Goals as goal

pub returns-in-Some-clause-holds : goal.returns-in-Some-clause-holds
returns-in-Some-clause-holds g c = holds_true c.args.region.now.bytes c.args.slot c.args.at
    (stands_slot c.args.region.now.bytes c.args.slot c.in-Some.number c.in-Some.ensures.number)
    c.in-Some.ensures.holds

pub returns-in-Some-clause-marked : goal.returns-in-Some-clause-marked
returns-in-Some-clause-marked g c =
    let below : c.in-Some.number < slots_total c.args.region.now.bytes = c.in-Some.ensures.below in
    mark_set g.M.Mark.says c.args.region.now.bytes c.args.marks.now c.args.slot c.args.at
    c.args.mark c.in-Some.number c.requires.table.0 c.in-Some.ensures.number c.in-Some.ensures.holds
    (omega arith)

pub returns-in-None-clause-holds : goal.returns-in-None-clause-holds
returns-in-None-clause-holds g c =
    holds_false c.args.region.now.bytes c.args.slot c.args.at c.in-None.ensures.none

pub returns-in-None-clause-marked : goal.returns-in-None-clause-marked
returns-in-None-clause-marked g c =
    let image = c.args.region.now.bytes in
    mark_none image (map g.M.Mark.says c.args.marks.now) (IsHolder image c.args.slot c.args.at)
    (g.M.Mark.says c.args.mark)
    (λ slot s holder. c.in-None.ensures.none (subst (λ (t : ℕ). IsSlot image t) (sym holder.0) s)
    (ap (u32_at image) holder.0 ∙ sym holder.1))
