-- `rank_count` of `ReplacingExactSource` meets its contract, by the laws of ReplacedFiles.
use Rattle.std.proofs.Common.{sym, ◌∙◌}
use Rattle.file_parts.proofs.ReplacedFiles.{count_is}
use Rattle.file_parts.proofs.replaced.ReplacingExactSource.rank_count.Goals as goal

pub returns : goal.returns
returns c = c.rank_count.ensures.blocks ∙ sym (count_is c.args.self.now)
