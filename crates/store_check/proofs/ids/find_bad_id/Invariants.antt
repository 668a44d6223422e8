-- The loop of `find_bad_id` keeps its invariant: no ID of the databases before this one is bad.
use Rattle.store_check.proofs.IdLaws.{NoneBad}
use Rattle.store_check.proofs.ids.find_bad_id.Given as goal

abbrev pub invariant-loop-db : goal.invariant-loop-db
invariant-loop-db l = NoneBad l.region.bytes l.seen l.db
