use Rattle.std.proofs.Common.{sym, ◌∙◌}
use Rattle.file_ids.proofs.GivenLaws.{no_ids}
use Rattle.file_ids.proofs.give.give_ids.Goals as goal

pub returns-then-has_resources-clause-given : goal.returns-then-has_resources-clause-given
returns-then-has_resources-clause-given g c = rw (no_ids c.args.file.now (sym c.has_resources.ensures ∙ c.if-has_resources.true), c.new.ensures.items) c.seed.ensures.is
