use Rattle.std.proofs.Common.{rules, subst, Contains}
use Rattle.std.proofs.lemmas.List.Sorted.{Contains-permutation, IsPermutation-sym}
use Rattle.benchmarks.proofs.timing.times.Times.into_median.Goals as goal

-- sorting leaves the same times
pub returns-clause-measured : goal.returns-clause-measured
returns-clause-measured c =
    let inside : Contains c.sort_unstable.new.self.items c.index.result.now = search rules
    in subst (λ times. Contains times c.index.result.now) c.self.view_is (Contains-permutation _ _ _ (IsPermutation-sym _ _ c.sort_unstable.ensures.permutation) inside)
