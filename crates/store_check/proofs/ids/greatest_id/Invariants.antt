-- The loop of `greatest_id` keeps its invariant: the ID is the greatest of the databases before
-- this one.
use Rattle.store_check.proofs.IdLaws.{GreatestSoFar}
use Rattle.store_check.proofs.ids.greatest_id.Given as goal

abbrev pub invariant-loop-db : goal.invariant-loop-db
invariant-loop-db l = GreatestSoFar l.region.bytes l.db l.greatest
