-- `rank_at` returns the rank at an index of the order, by the laws of ExactWritten.
use Rattle.file_parts.proofs.ExactWritten.{rank_inside}
use Rattle.file_parts.proofs.exact_writing.rank_at.Goals as goal

pub returns-clause-there : goal.returns-clause-there
returns-clause-there g c =
    let file = g.S.ExactSource.exact c.args.source.now in
    rw c.ranks-ranks.ensures.are
    (rank_inside file c.args.index c.ranks-ranks.ensures.ordered c.requires.inside)
