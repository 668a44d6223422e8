-- The next name is that of a chunk that is still there, since no name stands in the list twice.
use Rattle.palm_store.proofs.Laws.{refl, writes_then, number_at, own_movable, own_unlocked, own_beside, freed_upto}
use Rattle.palm_store.proofs.databases.gaining.free_named.Goals as goal

pub free_chunk_of-requires : goal.free_chunk_of-requires
free_chunk_of-requires c =
    let own = c.requires.own in
    let left = c.loop-index.invariant.leaves in
    let at = number_at c.args.names.now _ _ c.loop-index-test.true refl in record {
      heap = left.frame.accepted;
      movable = own_movable _ _ _ _ _ own left at;
      unlocked = own_unlocked _ _ _ _ _ own left at;
      no_directory = own_beside _ _ _ _ _ own left at;
    }

pub loop-index-preserved : goal.loop-index-preserved
loop-index-preserved c =
    let at = number_at c.args.names.now _ _ c.loop-index-test.true refl in
    let loop = c.loop-index.invariant in let freed = c.free_chunk_of.ensures in record {
      leaves = freed_upto _ _ _ _ _ _ loop.leaves freed.leaves at;
      kept = writes_then _ _ _ loop.kept freed.kept;
    }
