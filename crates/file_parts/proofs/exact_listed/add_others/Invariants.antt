-- The loop of `add_others` keeps its invariant: the ranks without a mark so far are added.
use Rattle.file_parts.proofs.AllWords.{◌≡◌, ◌++◌, data_in, database_listed, free_ranks}
use Rattle.file_parts.proofs.exact_listed.add_others.Given as goal

abbrev pub invariant-loop-rank : goal.invariant-loop-rank
invariant-loop-rank g l = l.ranks.items
    ≡ l.fn.ranks.items ++ free_ranks (data_in (database_listed l.listed)) l.marks l.rank
