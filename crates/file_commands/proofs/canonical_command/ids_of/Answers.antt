use Rattle.pdb_format.proofs.FileIds.{ids_for}
use Rattle.file_commands.proofs.canonical_command.ids_of.Goals as goal

pub returns-in-Ok-clause-ids : goal.returns-in-Ok-clause-ids
returns-in-Ok-clause-ids g c = record {
  have = c.in-Ok.ensures.given;
  fit = ids_for c.args.file.now c.in-Ok.given.ids.items _ _ c.in-Ok.ensures.given c.in-Ok.ensures.fit;
  seed = c.in-Ok.ensures.seed;
}

pub returns-in-Ok-clause-given : goal.returns-in-Ok-clause-given
returns-in-Ok-clause-given g c = record {
  have = c.in-Ok.ensures.given;
  fit = c.in-Ok.ensures.fit;
  distinct = c.in-Ok.ensures.distinct;
  most = c.in-Ok.ensures.seed;
}
