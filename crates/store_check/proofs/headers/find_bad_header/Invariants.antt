-- The loop of `find_bad_header` keeps its invariant: the headers before this one are good, and in
-- the table.
use Rattle.store_check.proofs.PassLaws.{HeadersSoFar}
use Rattle.store_check.proofs.headers.find_bad_header.Given as goal

abbrev pub invariant-loop-db : goal.invariant-loop-db
invariant-loop-db l = HeadersSoFar l.region.bytes l.table l.db
