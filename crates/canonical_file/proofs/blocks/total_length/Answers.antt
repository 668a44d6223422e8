-- `total_length` returns the size of all blocks together in bytes, by the contracts of its calls.
use Rattle.std.proofs.Common.{◌<◌, None, length, ap, ◌∙◌, arith, rules}
use Rattle.std.specs.List.{sum_by}
use Rattle.std.proofs.lemmas.List.{take_all}
use Rattle.std.proofs.lemmas.List.Sums.{sum_by_more, sum_by_more_le}
use Rattle.pdb_format.specs.Blocks.{length_within}
use Rattle.canonical_file.proofs.blocks.total_length.Goals as goal

pub overflow_add-total : goal.overflow_add-total
overflow_add-total c =
    let inside : c.loop-index.index < length c.args.blocks.now = search rules in
    let most = sum_by_more_le length_within c.args.blocks.now c.loop-index.index None inside in
    omega (arith, most, c.loop-index.invariant, c.block_length-total.ensures, c.requires.few)

pub loop-index-preserved : goal.loop-index-preserved
loop-index-preserved c =
    let inside : c.loop-index.index < length c.args.blocks.now = search rules in
    let more = sum_by_more length_within c.args.blocks.now c.loop-index.index None inside in
    omega (arith, more, c.loop-index.invariant, c.block_length-total.ensures)

pub returns : goal.returns
returns c =
    c.loop-index.invariant
    ∙ ap (sum_by length_within) (take_all c.loop-index.index c.args.blocks.now (omega arith))
