-- The chunk grows in place, since what is free after it suffices.
use Rattle.heap_compact.proofs.Laws.{rules, loose_other, one_of, loose_there, loose_lock, grown_resized, resized_named}
use Rattle.heap_compact.proofs.growing.grow_named.Goals as goal

pub chunk-found-requires : goal.chunk-found-requires
chunk-found-requires c = record { there = loose_there c.requires.loose }

pub grow_in_place-requires-clause-other : goal.grow_in_place-requires-clause-other
grow_in_place-requires-clause-other c =
    loose_other c.args.space.now c.chunk-found.result c.holds.ensures.lent (one_of c.chunk-found.ensures)
    (loose_lock c.holds.ensures.accepted c.requires.loose c.chunk-found.ensures)

pub returns : goal.returns
returns c =
    let unlocked = loose_lock c.holds.ensures.accepted c.requires.loose c.chunk-found.ensures in
    let r =
    resized_named c.grow_in_place.new.self.bytes c.args.count c.chunk-found.ensures
    (λ f fits. grown_resized c.grow_in_place.new.self.bytes c.chunk-found.result c.args.count c.grow_in_place.result c.holds.ensures.accepted f unlocked fits c.grow_in_place.ensures.tells c.grow_in_place.ensures.made)
    c.requires.fits in
    record { resized = r.0; alone = r.1; rest = search rules; heap = search rules }
