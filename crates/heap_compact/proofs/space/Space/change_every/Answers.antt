-- The changed bytes are written over those of a body that isn't lent.
use Rattle.heap_compact.proofs.Laws.{rules, arith, same_bytes, same_lents, viewed_heap, SpaceWritten, space_written, body_within, changed_part, length-changed_part}
use Rattle.heap_compact.proofs.space.Space.change_every.Given.{Over}
use Rattle.heap_compact.proofs.space.Space.change_every.Goals.{After-change_every}
use Rattle.heap_compact.proofs.space.Space.change_every.Goals as goal

pub change_every-requires-clause-within : goal.change_every-requires-clause-within
change_every-requires-clause-within g c = body_within c.self.view_is c.self.invariant c.requires.found c.requires.other c.args.at _ c.requires.within

written : (g : Over) (c : After-change_every g) → SpaceWritten c.args.self.now.bytes c.change_every.new.self c.self.inside.lists c.self.inside.tables c.args.found c.args.at (changed_part c.args.self.now.bytes c.args.found c.args.at c.args.count c.args.skip c.args.step (g.C.ByteChange.made c.args.change))
written g c =
    let change = g.C.ByteChange.made c.args.change in
    let many = length-changed_part _ c.args.found c.args.at c.args.count c.args.skip c.args.step change (viewed_heap c.self.view_is c.self.invariant.heap).accepted c.requires.found c.requires.within in
    space_written c.self.view_is c.self.invariant c.requires.found c.requires.other c.change_every.new.self c.args.at
    (λ old. changed_part old c.args.found c.args.at c.args.count c.args.skip c.args.step change) (omega (arith, many, c.requires.within)) (same_bytes c.change_every.ensures.after) (same_lents c.change_every.ensures.after)

pub returns : goal.returns
returns g c =
    let w = written g (goal.at.returns g c).After-change_every in
    record { made = w.made; plain = w.plain; rest = search rules; heap = w.space.heap }

pub invariant_of-self : goal.invariant_of-self
invariant_of-self g c = (written g (goal.at.invariant_of-self g c).After-change_every).space
