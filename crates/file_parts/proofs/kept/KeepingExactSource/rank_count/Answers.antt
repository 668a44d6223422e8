-- `rank_count` of `KeepingExactSource` meets its contract, by the laws of KeptSources.
use Rattle.std.proofs.Common.{sym, ◌∙◌}
use Rattle.file_parts.proofs.KeptSources.{count_is}
use Rattle.file_parts.proofs.kept.KeepingExactSource.rank_count.Goals as goal

pub returns : goal.returns
returns c = c.rank_count.ensures.blocks ∙ sym (count_is c.args.self.now)
