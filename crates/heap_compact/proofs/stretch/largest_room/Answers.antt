-- When the walk ends, the greatest room of all stretches is known.
use Rattle.heap_compact.proofs.Words.{◌+◌, ◌∙◌, sym, ap, subst, arith, max, size_by, Passed, HaveRooms, passed_there, passed_size, free_fits_by, walked_misses}
use Rattle.heap_compact.proofs.LargestLaws.{rooms_start, rooms_fit, rooms_closed, rooms_more, rooms_all}
use Rattle.heap_compact.proofs.stretch.largest_room.Goals as goal

pub loop-at-init : goal.loop-at-init
loop-at-init c = rw (← c.area_start-at.ensures) at (rooms_start c.requires.heap.accepted)

pub at_with_size-header-requires : goal.at_with_size-header-requires
at_with_size-header-requires c =
    let chunk = passed_there _ _ _ c.requires.heap.accepted c.loop-at.invariant (omega arith) in
    record {
      chunk = record { chunk = chunk.0; spelled = chunk.1 };
      small = omega (arith, c.requires.heap.accepted.1.tiles.head.most);
      misses = walked_misses c.args.region.now c.loop-at.invariant.front c.loop-at.at c.requires.heap.accepted c.requires.heap.lent c.loop-at.invariant.spelled (omega arith);
    }

pub overflow_add-room : goal.overflow_add-room
overflow_add-room c =
    let most = c.requires.heap.accepted.1.tiles.head.most in
    let fits = rooms_fit c.loop-at.largest c.loop-at.room c.loop-at.invariant in
    let size = passed_size _ _ _ c.at_with_size-header.ensures.header in let inside = size.1 in
    let within = free_fits_by c.at_with_size-header.result.0 in omega arith

pub loop-at-preserved : goal.loop-at-preserved
loop-at-preserved c =
    subst (λ n. Passed c.args.region.now.bytes (HaveRooms c.if-stays.largest c.if-stays.room) (c.loop-at.at + n)) (sym c.at_with_size-header.ensures.size)
    (elim c.if-stays.branch [
      | goal.then-stays w ↦
          subst (λ n. Passed c.args.region.now.bytes (HaveRooms n c.if-stays.room) (c.loop-at.at + size_by c.at_with_size-header.result.0)) (sym (w.largest-is ∙ w.max-largest.ensures))
          (subst (λ n. Passed c.args.region.now.bytes (HaveRooms (max c.loop-at.largest c.loop-at.room) n) (c.loop-at.at + size_by c.at_with_size-header.result.0)) (sym w.room-is)
          (rooms_closed _ _ c.loop-at.invariant c.at_with_size-header.ensures.header (c.stays.ensures.0 w.if-stays.true)))
      | goal.else-stays w ↦
          subst (λ n. Passed c.args.region.now.bytes (HaveRooms n c.if-stays.room) (c.loop-at.at + size_by c.at_with_size-header.result.0)) (sym w.largest-is)
          (subst (λ n. Passed c.args.region.now.bytes (HaveRooms c.loop-at.largest n) (c.loop-at.at + size_by c.at_with_size-header.result.0)) (sym (w.room-is ∙ ap (λ n. c.loop-at.room + n) w.size_if_free-room.ensures))
          (rooms_more _ _ c.loop-at.invariant c.at_with_size-header.ensures.header (λ stay. let is = c.stays.ensures.1 stay in let isnt = w.if-stays.false in cc)))
    ])

pub returns : goal.returns
returns c = c.max.ensures ∙ rooms_all _ _ c.requires.heap.accepted c.loop-at.invariant (omega arith)
