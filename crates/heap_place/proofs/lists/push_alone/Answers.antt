-- The chunk is put into lists that are empty, so only it is in them.
use Rattle.heap_place.proofs.Laws.{ButAt, new_lists, one_word, alone_lists}
use Rattle.heap_place.proofs.lists.push_alone.Goals as goal

pub returns-clause-same : goal.returns-clause-same
returns-clause-same c = one_word c.push.ensures.pushed.links

pub returns-clause-lists : goal.returns-clause-lists
returns-clause-lists c = alone_lists
    (rw (← c.empty.ensures) at (new_lists (ButAt c.args.at) c.args.region.now.bytes)) c.push.ensures.pushed
