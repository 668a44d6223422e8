-- The first chunk above 0 whose bytes are lent, if there is one, is lent.
use Rattle.mem_manager.proofs.Laws.{subst, Memory, IsNextLoan, lent_of, begins_some, next_loan, none_above}
use Rattle.mem_manager.proofs.heap.Heap.lent.Goals as goal

pub returns-in-Some-clause-lent : goal.returns-in-Some-clause-lent
returns-in-Some-clause-lent c =
    let h = c.self.invariant.heap.accepted in
    rw (← c.self.view_is)
    (lent_of c.self.inside.space h c.in-Some.ensures.found c.in-Some.ensures.next.begins)

pub returns-in-Some-clause-first : goal.returns-in-Some-clause-first
returns-in-Some-clause-first c = (
  c.in-Some.found.place.0,
  subst
      (λ (m : Memory). IsNextLoan m 0 c.in-Some.found.name.0 c.in-Some.found.place.0) c.self.view_is
      (next_loan c.self.invariant.heap c.in-Some.ensures.found c.in-Some.ensures.next),
)

pub returns-in-Some-clause-some : goal.returns-in-Some-clause-some
returns-in-Some-clause-some c whole =
    begins_some c.self.inside.space c.in-Some.found.place.0
    (rw (← c.self.view_is) at whole) c.in-Some.ensures.next.begins

pub returns-in-None-clause-none : goal.returns-in-None-clause-none
returns-in-None-clause-none c =
    rw (← c.self.view_is)
    (none_above c.self.inside.space c.self.invariant.heap.lent c.in-None.ensures.none)
