-- Bytes of a usable chunk are changed.
use Rattle.mem_manager.proofs.Laws.{◌+◌, arith, within_viewed, is_written, slice_found, usable, not_lent_other, changed_part, length-changed_part, write_changes}
use Rattle.mem_manager.proofs.StepWords.{managed_changed, one_of, same_lents}
use Rattle.mem_manager.proofs.heap.Heap.sys_change_every.Goals as goal

pub change_every-requires-clause-within : goal.change_every-requires-clause-within
change_every-requires-clause-within g c =
    let u = usable c.self.view_is c.self.invariant.heap c.requires.stands c.requires.here in
    within_viewed (c.args.at + c.args.count) c.self.view_is u.heap u.is c.requires.within

pub change_every-requires-clause-other : goal.change_every-requires-clause-other
change_every-requires-clause-other g c =
    let u = usable c.self.view_is c.self.invariant.heap c.requires.stands c.requires.here in
    not_lent_other u.heap u.is u.here

pub invariant_of-self : goal.invariant_of-self
invariant_of-self g c =
    let count = c.args.count in
    let u = usable c.self.view_is c.self.invariant.heap c.requires.stands c.requires.here in
    let part = changed_part c.self.inside.space.bytes c.args.found c.args.at count c.args.skip
    c.args.step (g.C.ByteChange.made c.args.change) in
    let fits = within_viewed (c.args.at + count) c.self.view_is u.heap u.is c.requires.within in
    let many = length-changed_part c.self.inside.space.bytes c.args.found c.args.at count c.args.skip c.args.step (g.C.ByteChange.made c.args.change) u.heap.accepted (one_of u.is) fits in
    managed_changed c.self.invariant c.change_every.ensures.heap (write_changes c.args.at part u.heap.accepted u.is (omega (arith, many, fits)) c.change_every.ensures.made)

pub returns : goal.returns
returns g c =
    let view = c.self.view_is in
    let u = usable view c.self.invariant.heap c.requires.stands c.requires.here in
    let part = changed_part c.self.inside.space.bytes c.args.found c.args.at c.args.count
    c.args.skip c.args.step (g.C.ByteChange.made c.args.change) in
    let fits = within_viewed (c.args.at + c.args.count) view u.heap u.is c.requires.within in
    let many = length-changed_part c.self.inside.space.bytes c.args.found c.args.at c.args.count c.args.skip c.args.step (g.C.ByteChange.made c.args.change) u.heap.accepted (one_of u.is) fits in
    let w = is_written u c.args.at part (same_lents c.change_every.ensures.rest)
    (omega (arith, many, fits)) c.change_every.ensures.made in
    let within = rw (← view) at c.requires.within in
    let leaves = rw (slice_found c.args.at c.args.count u.heap.accepted u.is within) at w.leaves in
    rw (← view) (record { leaves = leaves; unmoved = w.unmoved; stands = w.stands; loan = w.loan; rest = c.change_every.ensures.rest })
