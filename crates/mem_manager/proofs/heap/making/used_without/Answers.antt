-- The slots before the least number do not include the name's.
use Rattle.mem_manager.proofs.Words.{arith, not_among-number}
use Rattle.mem_manager.proofs.heap.making.used_without.Goals as goal

pub returns-clause-apart : goal.returns-clause-apart
returns-clause-apart c = not_among-number c.args.region.now.bytes _ c.args.name.0 (λ number stands. let least = c.min.ensures in let below = c.least_number.ensures.least number stands in omega arith)
