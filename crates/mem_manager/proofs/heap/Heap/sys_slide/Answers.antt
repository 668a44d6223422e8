-- Bytes of a usable chunk are copied within it.
use Rattle.mem_manager.proofs.Laws.{◌+◌, arith, slice_range, within_viewed, part_length, is_written, slice_found, usable, not_lent_other, write_changes}
use Rattle.mem_manager.proofs.StepWords.{managed_changed, one_of, same_lents}
use Rattle.mem_manager.proofs.heap.Heap.sys_slide.Goals as goal

pub slide_within-requires-clause-from_within : goal.slide_within-requires-clause-from_within
slide_within-requires-clause-from_within c =
    let u = usable c.self.view_is c.self.invariant.heap c.requires.stands c.requires.here in
    within_viewed (c.args.from + c.args.count) c.self.view_is u.heap u.is c.requires.from_within

pub slide_within-requires-clause-to_within : goal.slide_within-requires-clause-to_within
slide_within-requires-clause-to_within c =
    let u = usable c.self.view_is c.self.invariant.heap c.requires.stands c.requires.here in
    within_viewed (c.args.to + c.args.count) c.self.view_is u.heap u.is c.requires.to_within

pub slide_within-requires-clause-other : goal.slide_within-requires-clause-other
slide_within-requires-clause-other c =
    let u = usable c.self.view_is c.self.invariant.heap c.requires.stands c.requires.here in
    not_lent_other u.heap u.is u.here

pub invariant_of-self : goal.invariant_of-self
invariant_of-self c =
    let view = c.self.view_is in
    let u = usable view c.self.invariant.heap c.requires.stands c.requires.here in
    let part = slice_range c.self.inside.space.bytes (c.args.found.place.0 + c.args.from)
    (c.args.found.place.0 + c.args.from + c.args.count) in
    let many = part_length c.args.from c.args.count u.heap.accepted (one_of u.is)
    (within_viewed (c.args.from + c.args.count) view u.heap u.is c.requires.from_within) in
    let fits = within_viewed (c.args.to + c.args.count) view u.heap u.is c.requires.to_within in
    managed_changed c.self.invariant c.slide_within.ensures.heap (write_changes c.args.to part u.heap.accepted u.is (omega (arith, many, fits)) c.slide_within.ensures.made)

pub returns : goal.returns
returns c =
    let view = c.self.view_is in let within = c.slide_within.ensures in
    let u = usable view c.self.invariant.heap c.requires.stands c.requires.here in
    let part = slice_range c.self.inside.space.bytes (c.args.found.place.0 + c.args.from)
    (c.args.found.place.0 + c.args.from + c.args.count) in
    let many = part_length c.args.from c.args.count u.heap.accepted (one_of u.is)
    (within_viewed (c.args.from + c.args.count) view u.heap u.is c.requires.from_within) in
    let fits = within_viewed (c.args.to + c.args.count) view u.heap u.is c.requires.to_within in
    let w =
    is_written u c.args.to part (same_lents within.rest) (omega (arith, many, fits)) within.made in
    let from_within = rw (← view) at c.requires.from_within in
    let leaves =
    rw (slice_found c.args.from c.args.count u.heap.accepted u.is from_within) at w.leaves in
    rw (← view) (record { leaves = leaves; stands = w.stands; loan = w.loan; rest = within.rest })
