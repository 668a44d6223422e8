-- None of the records that were passed is of the category.
use Rattle.record_db.proofs.Words.{IsOf, NoneUntil}
use Rattle.record_db.proofs.search.first_of.Given as goal

abbrev pub invariant-loop-index : goal.invariant-loop-index
invariant-loop-index l = NoneUntil l.records.entries l.fn.from l.index (IsOf l.category)
