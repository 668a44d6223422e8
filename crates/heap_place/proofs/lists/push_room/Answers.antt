-- The room is put into its list, or there is none.
use Rattle.heap_place.proofs.Laws.{arith, lists_weaker, chunk_inside, no_words, one_word, pushed_lists}
use Rattle.heap_place.proofs.lists.push_room.Goals as goal

pub push-requires-clause-free : goal.push-requires-clause-free
push-requires-clause-free c = c.requires.free (omega arith)

pub returns-then-room-gt0-clause-same : goal.returns-then-room-gt0-clause-same
returns-then-room-gt0-clause-same c = one_word c.push.ensures.pushed.links

pub returns-then-room-gt0-clause-lists : goal.returns-then-room-gt0-clause-lists
returns-then-room-gt0-clause-lists c =
    pushed_lists _ _ (chunk_inside c.requires.heap.accepted (c.requires.free (omega arith))).1
    c.requires.within c.requires.lists c.push.ensures.pushed

pub returns-else-room-gt0-clause-same : goal.returns-else-room-gt0-clause-same
returns-else-room-gt0-clause-same c = no_words c.requires.heap.accepted

pub returns-else-room-gt0-clause-lists : goal.returns-else-room-gt0-clause-lists
returns-else-room-gt0-clause-lists c = lists_weaker _ _ _ _ (λ x b before. omega arith) c.requires.lists
