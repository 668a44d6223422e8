-- Room of no bytes is in no list.
use Rattle.heap_place.proofs.Laws.{arith, spot_least, none_unlinked}
use Rattle.heap_place.proofs.lists.unlink_run.Goals as goal

pub returns-then-room-eq0-clause-lists : goal.returns-then-room-eq0-clause-lists
returns-then-room-eq0-clause-lists c = none_unlinked c.if-room-eq0.true c.requires.heap.accepted c.requires.room c.requires.lists

pub unlink-requires-clause-some : goal.unlink-requires-clause-some
unlink-requires-clause-some c = (spot_least c.requires.heap.accepted c.requires.room (omega arith)).0
