use Rattle.std.proofs.lemmas.List.Sorted.{IsPermutation-refl, IsPermutation-trans}
use Rattle.benchmarks.proofs.memory.numbers.Numbers.shuffle.Goals as goal

pub loop-i-init : goal.loop-i-init
loop-i-init c = IsPermutation-refl c.args.names.now

-- a swap more
pub loop-i-preserved : goal.loop-i-preserved
loop-i-preserved c = IsPermutation-trans _ _ _ c.loop-i.invariant c.swap.ensures.permutation
