use Rattle.std.proofs.Common.{length}
use Rattle.benchmarks.proofs.memory.lending.+read_with_out.Given as goal

abbrev pub decreases-read_with_out : goal.decreases-read_with_out
decreases-read_with_out l = length l.out.now
