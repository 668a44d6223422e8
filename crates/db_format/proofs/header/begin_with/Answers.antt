use Rattle.std.proofs.Common.{◌∙◌}
use Rattle.db_format.proofs.HeaderLaws.{name_put}
use Rattle.db_format.proofs.header.begin_with.Goals as goal

pub returns-clause-front : goal.returns-clause-front
returns-clause-front c = name_put c.args.name _ _ c.to_bytes.ensures.valid (c.copy_from_slice.ensures.after ∙ c.to_bytes.ensures.is)
