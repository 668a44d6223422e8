-- `ranks` of `ReplacingExactSource` meets its contract, by the laws of ReplacedFiles.
use Rattle.file_parts.proofs.ReplacedFiles.{ordered_in}
use Rattle.file_parts.proofs.replaced.ReplacingExactSource.ranks.Goals as goal

pub returns-clause-ordered : goal.returns-clause-ordered
returns-clause-ordered c = ordered_in c.args.self.now c.requires
