-- `least_size` returns the least size of a class, a power of two.
use Rattle.std.proofs.Common.{◌≤◌, ◌^◌, arith}
use Rattle.std.proofs.Math.Pow.{pow_mono}
use Rattle.heap_svg.proofs.sizes.least_size.Goals as goal

pub returns-clause-is : goal.returns-clause-is
returns-clause-is c =
    let inside = c.requires in
    let most = pow_mono {i = c.args.index} {j = 20} (omega (arith, inside)) in
    omega (arith, most)

pub returns-clause-small : goal.returns-clause-small
returns-clause-small c =
    let inside = c.requires in
    let most = pow_mono {i = c.args.index} {j = 20} (omega (arith, inside)) in
    omega (arith, most)
