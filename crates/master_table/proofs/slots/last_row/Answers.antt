use Rattle.std.proofs.Common.{sym}
use Rattle.std.proofs.lemmas.Bool.{eqb-true}
use Rattle.master_table.proofs.slots.last_row.Goals as goal

pub returns-clause-last : goal.returns-clause-last
returns-clause-last c = eqb-true c.loop-row.row.next 0 (sym c.loop-row-test.ensures)
