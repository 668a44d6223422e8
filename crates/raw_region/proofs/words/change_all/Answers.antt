use Rattle.std.proofs.Common.{◌+◌, set, subst, sym, arith, ℕ}
use Rattle.raw_region.proofs.ChangeLaws.{IsOnWay, way_begins, way_goes_on, way_ends}
use Rattle.raw_region.proofs.words.change_all.Goals as goal

pub loop-at-init : goal.loop-at-init
loop-at-init g c = way_begins (g.C.ByteChange.made c.args.change) c.args.step c.args.skip c.args.bytes.now

pub loop-at-preserved : goal.loop-at-preserved
loop-at-preserved g c =
    subst (λ (byte : ℕ). IsOnWay (g.C.ByteChange.made c.args.change) c.args.step c.args.skip c.args.bytes.now (set c.loop-at.bytes c.loop-at.at byte) (c.loop-at.at + c.args.step)) (sym c.of.ensures)
    (way_goes_on (g.C.ByteChange.made c.args.change) c.args.step c.args.skip c.args.bytes.now c.loop-at.bytes c.loop-at.at (let some = c.requires.step.0 in omega arith) (let below = c.loop-at-test.true in omega arith) c.loop-at.invariant)

pub returns : goal.returns
returns g c = way_ends (g.C.ByteChange.made c.args.change) c.args.step c.args.skip c.args.bytes.now c.loop-at.bytes c.loop-at.at (let over = c.loop-at-test.false in omega arith) c.loop-at.invariant
