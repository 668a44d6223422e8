-- The count is that of the records of the category among those that were passed.
use Rattle.record_db.proofs.Words.{◌≡◌, take, count_by, is_of}
use Rattle.record_db.proofs.search.count_of.Given as goal

abbrev pub invariant-loop-index : goal.invariant-loop-index
invariant-loop-index l = l.count ≡ count_by (is_of l.category) (take l.index l.records.entries)
