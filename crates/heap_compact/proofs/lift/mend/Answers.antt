-- A walk over the lifted chunks mends one at each step.
use Rattle.heap_compact.proofs.Laws.{refl, ◌∙◌, arith, walk_table, walk_misses}
use Rattle.heap_compact.proofs.LiftedWalkLaws.{walk_start, walk_more, walk_state, walk_next, walk_on, walk_done}
use Rattle.heap_compact.proofs.lift.mend.Goals as goal

pub loop-at-init : goal.loop-at-init
loop-at-init c = (walk_start c.args.region.now.bytes c.args.gap c.args.start c.args.end, refl, refl)

pub mend_one-at-requires : goal.mend_one-at-requires
mend_one-at-requires c =
    let i = c.loop-at.invariant in record {
      carried = walk_next (walk_state i.0 c.requires.carried) (omega arith);
      table = walk_table c.loop-at.region i.0 c.requires.carried i.2 c.requires.table;
      misses = walk_misses c.loop-at.region.lents i.0 c.requires.carried (omega arith)
          (rw (← i.2) at c.requires.misses);
    }

pub overflow_add-at : goal.overflow_add-at
overflow_add-at c =
    let next = walk_on
    (walk_state c.loop-at.invariant.0 c.requires.carried) (omega arith) c.mend_one-at.ensures.mended in
    omega (arith, next.1)

pub loop-at-smaller : goal.loop-at-smaller
loop-at-smaller c =
    let next = walk_on
    (walk_state c.loop-at.invariant.0 c.requires.carried) (omega arith) c.mend_one-at.ensures.mended in
    omega (arith, next.0, next.1)

pub loop-at-preserved : goal.loop-at-preserved
loop-at-preserved c = (
  walk_more c.loop-at.invariant.0 (omega arith) c.mend_one-at.ensures.mended,
  c.mend_one-at.ensures.slid ∙ c.loop-at.invariant.1,
  c.mend_one-at.ensures.out ∙ c.loop-at.invariant.2,
)

pub returns-clause-mended : goal.returns-clause-mended
returns-clause-mended c = walk_done c.loop-at.invariant.0 (omega arith)
