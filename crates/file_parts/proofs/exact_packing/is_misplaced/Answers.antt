-- `is_misplaced` returns whether the block at an index of the order has no bytes, and the block
-- after it has a lower rank, by the laws of ExactInside.
use Rattle.file_parts.proofs.AllLaws.{◌<◌, ℕ, List, Option, length, get_or, refl, ◌∙◌, arith, data_in, database_listed, rank_inside}
use Rattle.file_parts.proofs.exact_packing.is_misplaced.Goals as goal

pub block_of-requires-clause-inside : goal.block_of-requires-clause-inside
block_of-requires-clause-inside c =
    let exact = c.args.exact.now in
    let good = c.requires.parts.good in
    let count = c.requires.parts.count in
    let blocks : List (Option (List ℕ)) = data_in (database_listed exact.listed) in
    let ranks : List ℕ = c.as_slice-ranks.result.now in
    let is = c.as_slice-ranks.ensures.value in
    let within : c.args.index < length ranks = rw is c.requires.inside in
    let inside : get_or ranks c.args.index 0 < length blocks =
    rank_inside blocks exact.lines.order.items _ c.args.index
    (get_or ranks c.args.index 0) good.order (is ∙ good.ranks) within refl in
    omega arith
