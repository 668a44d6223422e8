-- The stretch begins after the last chunk that stays, and ends with the first one after the chunk.
use Rattle.heap_compact.proofs.Laws.{◌+◌, ◌++◌, ◌-◌, sym, subst, arith, SeenUpTo, walked_misses, unlocked, seen_start, seen_chunk, seen_more, seen_stay, seen_found, seen_all, among_stretch}
use Rattle.heap_compact.proofs.stretch.stretch_around.Goals as goal

pub loop-here-init : goal.loop-here-init
loop-here-init c =
    seen_start c.requires.heap.accepted (unlocked _ _ c.requires.found c.requires.unlocked) c.area_start-here.ensures

pub at_with_size-header-requires : goal.at_with_size-header-requires
at_with_size-header-requires c =
    let chunk = seen_chunk c.requires.heap.accepted c.loop-here.invariant (omega arith) in record {
      chunk = record { chunk = chunk.0; spelled = chunk.1 };
      small = omega (arith, c.requires.heap.accepted.1.tiles.head.most);
      misses = walked_misses c.args.region.now (c.loop-here.invariant.closed ++ c.loop-here.invariant.run) c.loop-here.here c.requires.heap.accepted c.requires.heap.lent c.loop-here.invariant.spelled (omega arith);
    }

pub returns-then-here-at : goal.returns-then-here-at
returns-then-here-at c =
    let u = unlocked _ _ c.requires.found c.requires.unlocked in
    let around = seen_found c.requires.heap.accepted u c.loop-here.invariant c.at_with_size-header.ensures.header (c.stays.ensures.0 c.if-stays.true) (omega arith) in
    record { around = around; stretch = among_stretch around }

pub loop-here-preserved : goal.loop-here-preserved
loop-here-preserved c = elim c.if-stays.branch [
  | goal.then-stays+else-here-at w ↦
      let stop = w.if-here-at.false in
      subst (λ n. SeenUpTo c.args.region.now.bytes (c.args.found.place.0 - 8) n (c.loop-here.here + c.at_with_size-header.result.1)) (sym w.start-is)
      (seen_stay c.requires.heap.accepted (unlocked _ _ c.requires.found c.requires.unlocked) c.loop-here.invariant
      c.at_with_size-header.ensures.header c.at_with_size-header.ensures.size (c.stays.ensures.0 w.if-stays.true) (omega (arith, stop)))
  | goal.else-stays w ↦
      subst (λ n. SeenUpTo c.args.region.now.bytes (c.args.found.place.0 - 8) n (c.loop-here.here + c.at_with_size-header.result.1)) (sym w.start-is)
      (seen_more _ _ _ _ _ _ c.loop-here.invariant c.at_with_size-header.ensures.header c.at_with_size-header.ensures.size (λ stay. let is = c.stays.ensures.1 stay in let isnt = w.if-stays.false in cc))
]

pub returns : goal.returns
returns c =
    let around = seen_all c.requires.heap.accepted (unlocked _ _ c.requires.found c.requires.unlocked) c.loop-here.invariant (omega arith) in
    record { around = around; stretch = among_stretch around }
