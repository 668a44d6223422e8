-- The range is that of the entries.
use Rattle.database_edits.proofs.Laws.{◌≡◌, ◌+◌, ◌-◌, arith, entry_offset, written, length_kept, stays, offset_order, nothing_slid, slide_fits}
use Rattle.database_edits.proofs.bodies.slide_entries.Goals as goal

pub returns-clause-slides : goal.returns-clause-slides
returns-clause-slides c =
    let order = offset_order c.args.resources c.args.first c.args.end c.requires.order in
    let stop : c.entry_offset-from.result + (c.entry_offset.result - c.entry_offset-from.result)
    ≡ entry_offset c.args.resources c.args.end = omega arith in
    rw (stop, c.entry_offset-from.ensures, c.entry_offset-2.ensures)
    at (written _ _ c.requires.managers c.sys_slide.ensures.leaves)

pub returns-clause-len : goal.returns-clause-len
returns-clause-len c = length_kept _ _ (returns-clause-slides c) (slide_fits c.args.resources
    c.args.first c.args.end c.args.to _ c.requires.order c.requires.to_inside)

pub returns-then-first-end-clause-slides : goal.returns-then-first-end-clause-slides
returns-then-first-end-clause-slides c = stays c.requires.managers (nothing_slid _ _ _ _
    (offset_order c.args.resources c.args.end c.args.first c.if-first-end.true))
