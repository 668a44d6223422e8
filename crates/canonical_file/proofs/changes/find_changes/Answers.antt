-- `find_changes` calls `changes_by` with IDs that the file's records get, by the contracts of its
-- calls.
use Rattle.canonical_file.proofs.changes.find_changes.Goals as goal

pub changes_by-requires-clause-given : goal.changes_by-requires-clause-given
changes_by-requires-clause-given g c = record {
  have = c.in_ok-given.ensures.given;
  fit = c.in_ok-given.ensures.fit;
  distinct = c.in_ok-given.ensures.distinct;
  most = c.in_ok-given.ensures.seed;
}
