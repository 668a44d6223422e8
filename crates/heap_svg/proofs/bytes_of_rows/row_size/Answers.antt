-- `row_size` returns the least power of two, from 64 on, that gives at most 32 rows.
use Rattle.heap_svg.proofs.Words.{◌≡◌, ◌*◌, suc, refl, arith, doubled}
use Rattle.heap_svg.proofs.bytes_of_rows.row_size.Goals as goal

pub loop-line-init : goal.loop-line-init
loop-line-init c =
    record { power = (0, refl); low = omega arith; least = λ more. absurd (omega arith) }

pub loop-line-preserved : goal.loop-line-preserved
loop-line-preserved c =
    let power = c.loop-line.invariant.power in
    let is = power.1 in
    record {
      power =
          (suc power.0, (let e : c.loop-line.line * 2 ≡ 2 * doubled power.0 = omega arith in e));
      low = let low = c.loop-line.invariant.low in omega arith;
      least = λ more. omega arith;
    }

pub returns : goal.returns
returns c = record {
  times = c.loop-line.invariant.power.0;
  line_is = c.loop-line.invariant.power.1;
  enough = omega arith;
  least = c.loop-line.invariant.least;
}
