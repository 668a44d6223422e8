-- The body reads as zeros, and is one lent part more.
use Rattle.heap_compact.proofs.Laws.{ℕ, ◌≡◌, ◌+◌, ◌∷◌, replicate, refl, ap, ◌∙◌, arith, length-replicate, Lent, HoldsHeap, found_markable, lending_lends, same_bytes, same_lents, viewed_heap, BodyWritten, body_written, body_within}
use Rattle.heap_compact.proofs.space.Space.lend.Goals.{After-lend}
use Rattle.heap_compact.proofs.space.Space.lend.Goals as goal

pub lend-requires : goal.lend-requires
lend-requires c =
    let start : c.args.found.place.0 + 0 ≡ c.args.found.place.0 = omega arith in record {
      within = rw start at (body_within c.self.view_is c.self.invariant c.requires.found c.requires.other 0 c.args.found.length (omega arith));
      begins = rw (← c.self.view_is) at c.requires.other;
      place = found_markable _ _ (viewed_heap c.self.view_is c.self.invariant.heap).accepted c.requires.found;
    }

-- a lent body is zeros
written : (c : After-lend) → BodyWritten c.args.self.now.bytes c.lend.new.self.bytes c.self.inside.lists c.self.inside.tables c.args.found 0 (replicate c.args.found.length 0)
written c =
    body_written c.self.view_is c.self.invariant c.requires.found 0 c.args.found.place.0
    (λ old. replicate c.args.found.length 0) (omega arith)
    (omega (arith, length-replicate {A = ℕ} c.args.found.length 0)) (same_bytes c.lend.ensures.after)

heap : (c : After-lend) → HoldsHeap c.lend.new.self
heap c =
    let h = viewed_heap c.self.view_is c.self.invariant.heap in
    let lent : Lent = record { at = c.args.found.place.0; count = c.args.found.length; start = c.lend.result.start } in
    let lents = same_lents c.lend.ensures.after ∙ ap (λ m. lent ∷ m.lents) c.self.view_is in
    record {
      accepted = (written c).made.frame.accepted;
      lent = lending_lends c.args.self.now c.lend.new.self c.args.found lent _ h.accepted h.lent c.requires.other lents c.requires.found c.requires.stays (written c).made (length-replicate c.args.found.length 0) refl refl;
    }

pub returns-clause-made : goal.returns-clause-made
returns-clause-made c = (written (goal.at.returns-clause-made c).After-lend).made

pub returns-clause-plain : goal.returns-clause-plain
returns-clause-plain c = (written (goal.at.returns-clause-plain c).After-lend).plain

pub returns-clause-heap : goal.returns-clause-heap
returns-clause-heap c = heap (goal.at.returns-clause-heap c).After-lend

pub invariant_of-self : goal.invariant_of-self
invariant_of-self c =
    let w = written (goal.at.invariant_of-self c).After-lend in
    record { heap = heap (goal.at.invariant_of-self c).After-lend; lists = w.lists; tables = w.tables }
