-- `find_left` returns the first marked slot, by the laws of ChainedLaws.
use Rattle.heap_check.proofs.Laws.{sym, subst, ℕ, HeldBefore, held_none, held_last}
use Rattle.heap_check.proofs.chained.find_left.Goals as goal

pub loop-row-init : goal.loop-row-init
loop-row-init c = record {
  row = c.of-row.ensures.row;
  held = subst (λ (n : ℕ). HeldBefore c.args.region.now.bytes n) (sym c.of-row.ensures.start)
      (held_none c.args.region.now.bytes);
}

pub loop-row-preserved : goal.loop-row-preserved
loop-row-preserved c = record {
  row = c.behind-row.ensures.is_row;
  held = subst (λ (n : ℕ). HeldBefore c.args.region.now.bytes n)
      (sym c.behind-row.ensures.start) c.in_default.ensures.none;
}

pub returns-clause-none : goal.returns-clause-none
returns-clause-none c = held_last c.args.region.now.bytes c.loop-row.row c.first_marked-2.result
    c.loop-row.invariant.row (sym c.loop-row-test.ensures) c.first_marked-2.ensures.none
