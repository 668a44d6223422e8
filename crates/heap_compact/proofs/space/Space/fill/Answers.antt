-- The bytes are written over those of a body that isn't lent.
use Rattle.heap_compact.proofs.Laws.{replicate, rules, arith, length-replicate, same_bytes, same_lents, SpaceWritten, space_written, body_within}
use Rattle.heap_compact.proofs.space.Space.fill.Goals.{After-fill}
use Rattle.heap_compact.proofs.space.Space.fill.Goals as goal

pub fill-requires : goal.fill-requires
fill-requires c = body_within c.self.view_is c.self.invariant c.requires.found c.requires.other c.args.at _ c.requires.within

written : (c : After-fill) → SpaceWritten c.args.self.now.bytes c.fill.new.self c.self.inside.lists c.self.inside.tables c.args.found c.args.at (replicate c.args.count c.args.byte)
written c =
    space_written c.self.view_is c.self.invariant c.requires.found c.requires.other c.fill.new.self c.args.at
    (λ old. replicate c.args.count c.args.byte) (omega (arith, c.requires.within, length-replicate c.args.count c.args.byte)) (same_bytes c.fill.ensures.after) (same_lents c.fill.ensures.after)

pub returns : goal.returns
returns c =
    let w = written (goal.at.returns c).After-fill in
    record { made = w.made; plain = w.plain; rest = search rules; heap = w.space.heap }

pub invariant_of-self : goal.invariant_of-self
invariant_of-self c = (written (goal.at.invariant_of-self c).After-fill).space
