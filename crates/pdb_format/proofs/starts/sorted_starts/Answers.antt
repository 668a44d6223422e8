-- `sorted_starts` returns starts that rise, by the law of the library's sorting.
use Rattle.std.proofs.Common.{rules}
use Rattle.std.proofs.lemmas.List.Sorted.{IsNonDecreasingBy-from_sort_by_key}
use Rattle.pdb_format.specs.Starts.{order}
use Rattle.pdb_format.proofs.starts.sorted_starts.Goals as goal

pub returns-clause-rising : goal.returns-clause-rising
returns-clause-rising g c =
    IsNonDecreasingBy-from_sort_by_key order _ c.sort_unstable_by_key.ensures.sorted
    (λ a r q k. search rules)
