use Rattle.std.proofs.Common.{arith}
use Rattle.master_table.proofs.RowLaws.{least_of, exact_of}
use Rattle.master_table.proofs.table.least_number.Goals as goal

pub returns-clause-least : goal.returns-clause-least
returns-clause-least c = λ number s.
    let front = c.saturating_sub-number.ensures in
    let least = c.min.ensures in
    let count = c.slot_count.ensures in
    least_of c.args.region.now.bytes c.args.name.0 number c.requires.tiled s c.min.result (omega arith) (omega arith)

pub returns-clause-exact : goal.returns-clause-exact
returns-clause-exact c = λ number s below.
    let front = c.saturating_sub-number.ensures in
    let least = c.min.ensures in
    let count = c.slot_count.ensures in
    exact_of c.args.region.now.bytes c.args.name.0 number c.requires.tiled s below c.min.result (omega arith)
