use Rattle.std.proofs.Common.{get_or, refl, subst, arith}
use Rattle.bit_sets.specs.Sets.{IsFirstMissing}
use Rattle.bit_sets.proofs.SetLaws.{full_byte, missing_in_byte}
use Rattle.bit_sets.proofs.sets.first_missing.Goals as goal

pub returns-then-set-index : goal.returns-then-set-index
returns-then-set-index c =
    let is = missing_in_byte c.args.set.now c.loop-index.index (get_or c.args.set.now c.loop-index.index 0) refl (omega arith) c.loop-index.invariant in
    let trailing = c.trailing_ones.ensures in
    subst (IsFirstMissing c.args.set.now) (omega arith) is

pub loop-index-preserved : goal.loop-index-preserved
loop-index-preserved c = full_byte c.args.set.now c.loop-index.index (omega arith) c.loop-index.invariant
