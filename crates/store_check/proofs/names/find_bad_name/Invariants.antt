-- The loop of `find_bad_name` keeps its invariant: each database before this one has a name.
use Rattle.store_check.proofs.Terms.{ℕ, ◌<◌, HasName, header_at}
use Rattle.store_check.proofs.names.find_bad_name.Given as goal

abbrev pub invariant-loop-db : goal.invariant-loop-db
invariant-loop-db l = (earlier : ℕ) → earlier < l.db → HasName (header_at l.region.bytes earlier)
