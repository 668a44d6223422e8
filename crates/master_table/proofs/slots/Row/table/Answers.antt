use Rattle.master_table.proofs.RowLaws.{row_starts, row_ends}
use Rattle.master_table.proofs.slots.Row.table.Goals as goal

pub returns-clause-start : goal.returns-clause-start
returns-clause-start c = λ image r. row_starts image c.args.self r

pub returns-clause-last : goal.returns-clause-last
returns-clause-last c = λ image r last. row_ends image c.args.self r last
