-- `ranks` of `KeepingExactSource` meets its contract, by the contracts of its calls.
use Rattle.file_parts.proofs.kept.KeepingExactSource.ranks.Goals as goal

pub returns-clause-ordered : goal.returns-clause-ordered
returns-clause-ordered c = c.requires.order
