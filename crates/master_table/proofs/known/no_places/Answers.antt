use Rattle.master_table.proofs.FurtherLaws.{none_in_zeros}
use Rattle.master_table.proofs.known.no_places.Goals as goal

pub returns : goal.returns
returns c = none_in_zeros 16385
