-- `count_of` returns the number of pieces of a class.
use Rattle.heap_svg.proofs.Words.{◌≤◌, ◌∙◌, length, ap, arith, count_by, take_all, is_of_size}
use Rattle.heap_svg.proofs.sizes.count_of.Goals as goal

pub returns : goal.returns
returns c =
    let xs = c.args.pieces.now in
    let i = c.loop-size.size-index in
    let past : length xs ≤ i = omega arith in
    c.loop-size.invariant.same ∙ ap (count_by (is_of_size c.args.least)) (take_all i xs past)
