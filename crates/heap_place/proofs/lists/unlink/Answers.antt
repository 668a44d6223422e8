-- One chunk that is all the room leaves its list, or all lists are dropped.
use Rattle.heap_place.proofs.Laws.{sym, subst, ◌∙◌, IsFreeChunk, spot_front, taken_outside, first_within}
use Rattle.heap_place.proofs.lists.unlink.Goals as goal

pub size_at-requires : goal.size_at-requires
size_at-requires c = first_within c.requires.heap (spot_front c.requires.heap.accepted c.requires.some c.requires.room)

pub take_out-requires-clause-free : goal.take_out-requires-clause-free
take_out-requires-clause-free c =
    subst (λ n. IsFreeChunk c.args.region.now.bytes c.args.room.at n) (sym c.size_at.ensures ∙ c.if-size_at-room.true) (spot_front c.requires.heap.accepted c.requires.some c.requires.room)

pub returns-then-size_at-room-clause-lists : goal.returns-then-size_at-room-clause-lists
returns-then-size_at-room-clause-lists c =
    let chunk = rw (sym c.size_at.ensures ∙ c.if-size_at-room.true) at (spot_front c.requires.heap.accepted c.requires.some c.requires.room) in
    taken_outside c.take_out.ensures.same chunk c.take_out.ensures.lists
