-- The loop of `has_earlier_name` keeps its invariant: no database before `earlier` has this name.
use Rattle.store_check.proofs.Terms.{◌≢◌, ℕ, ◌<◌, name_in, header_at}
use Rattle.store_check.proofs.names.has_earlier_name.Given as goal

abbrev pub invariant-loop-earlier : goal.invariant-loop-earlier
invariant-loop-earlier l = (before : ℕ) → before < l.earlier
    → name_in (header_at l.region.bytes before) ≢ name_in (header_at l.region.bytes l.db)
