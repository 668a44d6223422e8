-- The data of the entry is resized, and nothing else changes.
use Rattle.palm_store.proofs.Laws.{refl, resize_steps, if_err, FirstBrings, checks_of_data_growth, for_data, data_movable}
use Rattle.palm_store.proofs.DataGrowth.{none_for_callers, first_for_callers, sized_steps}
use Rattle.palm_store.proofs.OpenedHere.{owned_in, slid, still_store}
use Rattle.palm_store.proofs.store.Store.entry_resize.Goals as goal

pub sys_find-found-requires : goal.sys_find-found-requires
sys_find-found-requires c =
    let own = owned_in c.self.view_is c.self.invariant.accepted c.requires.own in
    data_movable _ _ c.self.invariant.accepted.heap (for_data _ _ own)

pub returns-clause-done : goal.returns-clause-done
returns-clause-done c =
    let own = owned_in c.self.view_is c.self.invariant.accepted c.requires.own in
    rw (← c.self.view_is) (sized_steps _ _ _ c.args.size
    (resize_steps _ _ _ c.args.size c.self.invariant.accepted c.in_ok-sys_resize.ensures.done own))

pub invariant_of-self-2 : goal.invariant_of-self-2
invariant_of-self-2 c =
    still_store (returns-clause-done c) refl (rw (← c.self.view_is) c.self.invariant)

pub returns-clause-could : goal.returns-clause-could
returns-clause-could c =
    let own = owned_in c.self.view_is c.self.invariant.accepted c.requires.own in
    rw (← c.self.view_is) (none_for_callers c.self.inside.heap _ _ own c.in_ok-sys_resize.ensures.could)

pub returns-in_err-sys_resize-clause-why : goal.returns-in_err-sys_resize-clause-why
returns-in_err-sys_resize-clause-why c =
    let own = owned_in c.self.view_is c.self.invariant.accepted c.requires.own in
    let e = c.from_residual.ensures in
    let checks = checks_of_data_growth c.self.inside.heap c.args.name.0 c.args.size in
    rw (← c.self.view_is) (if_err (FirstBrings checks) _ (e.0, e.1)
    (first_for_callers c.self.inside.heap _ _ _ own c.in_err-sys_resize.ensures.why))

pub returns-clause-kept : goal.returns-clause-kept
returns-clause-kept c =
    rw (← c.self.view_is) (slid c.sys_resize.ensures.loan c.sys_resize.ensures.rest)

pub returns-in_err-sys_resize-clause-kept : goal.returns-in_err-sys_resize-clause-kept
returns-in_err-sys_resize-clause-kept c =
    rw (← c.self.view_is) (slid c.sys_resize.ensures.loan c.sys_resize.ensures.rest)
