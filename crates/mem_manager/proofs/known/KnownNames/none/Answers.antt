-- A table of zeros has no name.
use Rattle.mem_manager.proofs.RememberedNames.{none_known}
use Rattle.mem_manager.proofs.known.KnownNames.none.Goals as goal

pub returns : goal.returns
returns c name is = none_known is
