use Rattle.std.proofs.Common.{length}
use Rattle.master_table.specs.Table.{tables_from}
use Rattle.master_table.proofs.ChainLaws.{LeadsTo}
use Rattle.master_table.proofs.chain.last_next.Given as goal

abbrev pub invariant-loop-next : goal.invariant-loop-next
invariant-loop-next l = LeadsTo l.region.bytes l.at l.next

abbrev pub decreases-loop-next : goal.decreases-loop-next
decreases-loop-next l = length (tables_from l.region.bytes l.next)
