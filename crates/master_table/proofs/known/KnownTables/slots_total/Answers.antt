use Rattle.std.proofs.Common.{sym, subst}
use Rattle.master_table.specs.Table.{IsStart}
use Rattle.master_table.specs.Known.{Remembered}
use Rattle.master_table.proofs.known.KnownTables.slots_total.Goals as goal

pub slots_from-requires-clause-start : goal.slots_from-requires-clause-start
slots_from-requires-clause-start c = subst (λ (k : Remembered). IsStart c.args.region.now.bytes k.latest) (sym c.self.view_is) c.requires.knows.latest
