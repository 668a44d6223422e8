-- `ranks_for` returns the ranks of the blocks in the order of a file that keeps these things.
use Rattle.file_parts.proofs.AllWords.{IsNonDecreasingBy-from_sort}
use Rattle.file_parts.proofs.kept.ranks_for.Goals as goal

pub returns-clause-sorted : goal.returns-clause-sorted
returns-clause-sorted c = λ _. IsNonDecreasingBy-from_sort (λ x. x) c.sort_unstable.new.self.items
    c.sort_unstable.ensures.sorted
