use Rattle.std.proofs.Common.{sym, ap, subst}
use Rattle.master_table.specs.Table.{IsStart}
use Rattle.master_table.specs.Known.{Remembered}
use Rattle.master_table.proofs.FurtherLaws.{knows_later}
use Rattle.master_table.proofs.known.KnownTables.move_to_last.Goals as goal

pub last_row-requires-clause-start : goal.last_row-requires-clause-start
last_row-requires-clause-start c = subst (λ (k : Remembered). IsStart c.args.region.now.bytes k.latest) (sym c.self.view_is) c.requires.knows.latest

pub returns-clause-knows : goal.returns-clause-knows
returns-clause-knows c =
    knows_later c.args.region.now.bytes c.args.self.now _ c.requires.knows (ap (λ (k : Remembered). k.places) c.self.view_is)
    (c.table-last.ensures.start c.args.region.now.bytes c.last_row.ensures.row)

pub returns-clause-last : goal.returns-clause-last
returns-clause-last c = c.table-last.ensures.last c.args.region.now.bytes c.last_row.ensures.row c.last_row.ensures.last
