-- A header counts only if the slot that it names holds the place.
use Rattle.heap_place.proofs.Laws.{OnFalse_at, sym, ◌∙◌, arith, none_begins_holds, slot_unread, low_holds_none, other_holds_none, elsewhere_holds_none, slot_one, movable_place}
use Rattle.heap_place.proofs.lookup.in_slot_at.Goals as goal

pub returns-then-place-lt-HEADER_SIZE-clause-none : goal.returns-then-place-lt-HEADER_SIZE-clause-none
returns-then-place-lt-HEADER_SIZE-clause-none c = low_holds_none _ c.requires.heap.accepted c.if-place-lt-HEADER_SIZE.true

pub returns-in-None-clause-none : goal.returns-in-None-clause-none
returns-in-None-clause-none c = λ name holds. slot_unread c.requires.heap.accepted (sym c.in-None.is ∙ c.read.ensures.is) holds

pub returns-in-None-as_movable-clause-none : goal.returns-in-None-as_movable-clause-none
returns-in-None-as_movable-clause-none c =
    other_holds_none _ c.requires.heap.accepted (sym c.in-Some.is ∙ c.read.ensures.is) (sym c.as_movable.ensures ∙ c.in-None-as_movable.is)

pub returns-in-Some-resolve_known-clause-found : goal.returns-in-Some-resolve_known-clause-found
returns-in-Some-resolve_known-clause-found c =
    slot_one _ c.requires.heap.accepted (sym c.in-Some.is ∙ c.read.ensures.is) (sym c.as_movable.ensures ∙ c.in-Some-as_movable.is)
    (rw c.if-held-place.true at c.in-Some-resolve_known.ensures)

pub returns-in-Some-resolve_known-clause-there : goal.returns-in-Some-resolve_known-clause-there
returns-in-Some-resolve_known-clause-there c = movable_place _ _ (sym c.as_movable.ensures ∙ c.in-Some-as_movable.is)

pub returns-in_default-clause-none : goal.returns-in_default-clause-none
returns-in_default-clause-none c =
    elsewhere_holds_none _ c.requires.heap.accepted (sym c.in-Some.is ∙ c.read.ensures.is) (sym c.as_movable.ensures ∙ c.in-Some-as_movable.is)
    (λ holds. c.if-held-place.false (sym c.in-Some-resolve_known.ensures.held ∙ holds.held))

pub returns-in_default-2-clause-none : goal.returns-in_default-2-clause-none
returns-in_default-2-clause-none c =
    elsewhere_holds_none _ c.requires.heap.accepted (sym c.in-Some.is ∙ c.read.ensures.is) (sym c.as_movable.ensures ∙ c.in-Some-as_movable.is)
    (λ holds. let none = c.in_default.ensures holds.is_slot in omega arith)

pub returns-then-not-may_read_header-clause-none : goal.returns-then-not-may_read_header-clause-none
returns-then-not-may_read_header-clause-none c = none_begins_holds _ c.requires.heap.accepted (OnFalse_at c.if-not-may_read_header.true c.may_read_header.ensures.none)
