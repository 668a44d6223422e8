-- A name with a movable chunk is a slot that holds its place.
use Rattle.heap_place.proofs.Laws.{sym, subst, HoldsPlace, movable_holds_place}
use Rattle.heap_place.proofs.lookup.movable_named.Goals as goal

pub word_of-requires-clause-slot : goal.word_of-requires-clause-slot
word_of-requires-clause-slot c = (movable_holds_place _ _ c.requires.heap.accepted c.requires.there c.requires.movable).is_slot

pub held_by-requires-clause-holds : goal.held_by-requires-clause-holds
held_by-requires-clause-holds c =
    let holds = movable_holds_place _ _ c.requires.heap.accepted c.requires.there c.requires.movable in
    subst (λ p. HoldsPlace c.args.region.now.bytes c.args.name.0 p) (sym c.word_of.ensures) holds
