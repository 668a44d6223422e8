-- The fields are those of the header that was read.
use Rattle.std.proofs.Common.{◌∙◌}
use Rattle.palm_store.proofs.Lookups.{info_read}
use Rattle.palm_store.proofs.lookup.header.info_in.Goals as goal

pub returns : goal.returns
returns c = c.info.ensures ∙ info_read _ _ c.read.ensures
