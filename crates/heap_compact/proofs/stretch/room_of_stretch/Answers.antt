-- When the walk ends, the free bytes of the stretch are summed.
use Rattle.heap_compact.proofs.Words.{arith, free_fits_by}
use Rattle.heap_compact.proofs.StretchRoomLaws.{summed_chunk, summed_fits, summed_more, summed_all, summed_misses}
use Rattle.heap_compact.proofs.stretch.room_of_stretch.Goals as goal

pub at_with_size-header-requires : goal.at_with_size-header-requires
at_with_size-header-requires c =
    let chunk = summed_chunk c.requires.heap.accepted c.loop-at.invariant c.loop-at-test.true c.requires.stretch in
    record {
      chunk = record { chunk = chunk.0; spelled = chunk.1 };
      small = omega (arith, c.requires.heap.accepted.1.tiles.head.most);
      misses = summed_misses c.requires.heap c.requires.stretch c.loop-at.invariant c.loop-at-test.true;
    }

pub overflow_add-room : goal.overflow_add-room
overflow_add-room c =
    let fits = summed_fits c.requires.heap.accepted c.loop-at.invariant c.loop-at-test.true c.requires.stretch c.at_with_size-header.ensures.header in
    let within = free_fits_by c.at_with_size-header.result.0 in
    let more = c.size_if_free-room.ensures in omega arith

pub loop-at-preserved : goal.loop-at-preserved
loop-at-preserved c =
    summed_more c.requires.heap.accepted c.loop-at.invariant c.loop-at-test.true c.at_with_size-header.ensures.header
    c.at_with_size-header.ensures.size c.size_if_free-room.ensures

pub returns : goal.returns
returns c = summed_all c.requires.heap.accepted c.loop-at.invariant (omega arith)
