-- The bytes are written over the zeros of the body, which is lent no more.
use Rattle.heap_compact.proofs.Laws.{ap, ◌∙◌, arith, without, HoldsHeap, found_markable, back_lends, same_bytes, same_lents, viewed_heap, BodyWritten, body_written}
use Rattle.heap_compact.proofs.space.Space.take_back.Goals.{After-take_back}
use Rattle.heap_compact.proofs.space.Space.take_back.Goals as goal

pub take_back-requires : goal.take_back-requires
take_back-requires c = record {
  out = rw (← c.self.view_is) at c.requires.out;
  place = (found_markable _ _ (viewed_heap c.self.view_is c.self.invariant.heap).accepted c.requires.found).1;
}

written : (c : After-take_back) → BodyWritten c.args.self.now.bytes c.take_back.new.self.bytes c.self.inside.lists c.self.inside.tables c.args.found 0 c.args.part.bytes
written c =
    body_written c.self.view_is c.self.invariant c.requires.found 0 c.args.found.place.0
    (λ old. c.args.part.bytes) (omega arith) (omega (arith, c.requires.whole)) (same_bytes c.take_back.ensures.after)

heap : (c : After-take_back) → HoldsHeap c.take_back.new.self
heap c =
    let h = viewed_heap c.self.view_is c.self.invariant.heap in
    let lents = same_lents c.take_back.ensures.after ∙ ap (λ m. without c.args.found.place.0 m.lents) c.self.view_is in
    record {
      accepted = (written c).made.frame.accepted;
      lent = back_lends c.args.self.now c.take_back.new.self c.args.found _ h.accepted h.lent lents c.requires.found (written c).made c.requires.whole;
    }

pub returns-clause-made : goal.returns-clause-made
returns-clause-made c = (written (goal.at.returns-clause-made c).After-take_back).made

pub returns-clause-plain : goal.returns-clause-plain
returns-clause-plain c = (written (goal.at.returns-clause-plain c).After-take_back).plain

pub invariant_of-self : goal.invariant_of-self
invariant_of-self c =
    let w = written (goal.at.invariant_of-self c).After-take_back in
    record { heap = heap (goal.at.invariant_of-self c).After-take_back; lists = w.lists; tables = w.tables }

pub returns-clause-heap : goal.returns-clause-heap
returns-clause-heap c = heap (goal.at.returns-clause-heap c).After-take_back
