-- Bytes of a usable chunk are written.
use Rattle.mem_manager.proofs.Laws.{◌+◌, length, within_viewed, is_written, usable, not_lent_other, write_changes}
use Rattle.mem_manager.proofs.StepWords.{managed_changed, same_lents}
use Rattle.mem_manager.proofs.heap.Heap.sys_write.Goals as goal

pub write-requires-clause-within : goal.write-requires-clause-within
write-requires-clause-within c =
    let u = usable c.self.view_is c.self.invariant.heap c.requires.stands c.requires.here in
    within_viewed (c.args.at + length c.args.bytes.now) c.self.view_is u.heap u.is c.requires.within

pub write-requires-clause-other : goal.write-requires-clause-other
write-requires-clause-other c =
    let u = usable c.self.view_is c.self.invariant.heap c.requires.stands c.requires.here in
    not_lent_other u.heap u.is u.here

pub invariant_of-self : goal.invariant_of-self
invariant_of-self c =
    let u = usable c.self.view_is c.self.invariant.heap c.requires.stands c.requires.here in
    let within = within_viewed
    (c.args.at + length c.args.bytes.now) c.self.view_is u.heap u.is c.requires.within in
    managed_changed c.self.invariant c.write.ensures.heap
    (write_changes c.args.at c.args.bytes.now u.heap.accepted u.is within c.write.ensures.made)

pub returns : goal.returns
returns c =
    let u = usable c.self.view_is c.self.invariant.heap c.requires.stands c.requires.here in
    let within = within_viewed
    (c.args.at + length c.args.bytes.now) c.self.view_is u.heap u.is c.requires.within in
    let w = is_written u c.args.at c.args.bytes.now
    (same_lents c.write.ensures.rest) within c.write.ensures.made in
    rw (← c.self.view_is) (record { leaves = w.leaves; unmoved = w.unmoved; stands = w.stands; loan = w.loan; rest = c.write.ensures.rest })
