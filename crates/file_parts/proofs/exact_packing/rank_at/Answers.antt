-- `rank_at` returns the rank at an index of the order, by the laws of ExactInside.
use Rattle.file_parts.proofs.AllLaws.{◌<◌, ℕ, List, length, get_or, refl, ◌∙◌, data_in, database_listed, rank_inside}
use Rattle.file_parts.proofs.exact_packing.rank_at.Goals as goal

pub returns-clause-there : goal.returns-clause-there
returns-clause-there c =
    let exact = c.args.exact.now in
    let good = c.requires.good in
    let ranks : List ℕ = c.as_slice-ranks.result.now in
    let is = c.as_slice-ranks.ensures.value in
    let within : c.args.index < length ranks = rw is c.requires.inside in
    rank_inside (data_in (database_listed exact.listed)) exact.lines.order.items _ c.args.index
    (get_or ranks c.args.index 0) good.order (is ∙ good.ranks) within refl
