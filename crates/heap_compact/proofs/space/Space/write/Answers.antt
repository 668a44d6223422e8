-- The bytes are written over those of a body that isn't lent.
use Rattle.heap_compact.proofs.Words.{rules, same_bytes, same_lents}
use Rattle.heap_compact.proofs.SpaceWrites.{SpaceWritten, space_written, body_within}
use Rattle.heap_compact.proofs.space.Space.write.Goals.{After-write}
use Rattle.heap_compact.proofs.space.Space.write.Goals as goal

pub write-requires : goal.write-requires
write-requires c = body_within c.self.view_is c.self.invariant c.requires.found c.requires.other c.args.at _ c.requires.within

written : (c : After-write) → SpaceWritten c.args.self.now.bytes c.write.new.self c.self.inside.lists c.self.inside.tables c.args.found c.args.at c.args.bytes.now
written c =
    space_written c.self.view_is c.self.invariant c.requires.found c.requires.other c.write.new.self c.args.at
    (λ old. c.args.bytes.now) c.requires.within (same_bytes c.write.ensures.after) (same_lents c.write.ensures.after)

pub returns : goal.returns
returns c =
    let w = written (goal.at.returns c).After-write in
    record { made = w.made; plain = w.plain; rest = search rules; heap = w.space.heap }

pub invariant_of-self : goal.invariant_of-self
invariant_of-self c = (written (goal.at.invariant_of-self c).After-write).space
