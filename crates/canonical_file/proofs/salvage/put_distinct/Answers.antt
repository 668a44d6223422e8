-- `put_distinct` calls `put_canonical_from` with IDs that the file's records get, by the laws of
-- FileIds.
use Rattle.pdb_format.proofs.FileIds.{ids_for}
use Rattle.canonical_file.proofs.salvage.put_distinct.Goals as goal

pub put_canonical_from-requires-clause-ids : goal.put_canonical_from-requires-clause-ids
put_canonical_from-requires-clause-ids g c = record {
  have = c.in-Ok.ensures.given;
  fit = ids_for c.args.file.now _ _ _ c.in-Ok.ensures.given c.in-Ok.ensures.fit;
  seed = c.in-Ok.ensures.seed;
}
