use Rattle.master_table.proofs.FurtherLaws.{knows_none}
use Rattle.master_table.proofs.known.KnownTables.none.Goals as goal

pub returns : goal.returns
returns c = λ image. knows_none _ image c.no_places.ensures (c.first.ensures image)
