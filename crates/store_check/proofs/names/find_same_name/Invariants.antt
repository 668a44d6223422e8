-- The loop of `find_same_name` keeps its invariant: the names before this one differ, and the set
-- has their numbers.
use Rattle.store_check.proofs.NameLaws.{NamesSoFar}
use Rattle.store_check.proofs.names.find_same_name.Given as goal

abbrev pub invariant-loop-db : goal.invariant-loop-db
invariant-loop-db l = NamesSoFar l.region.bytes l.seen l.db
