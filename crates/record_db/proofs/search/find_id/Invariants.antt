-- None of the records that were passed has the ID.
use Rattle.record_db.proofs.Words.{HasId, NoneUntil}
use Rattle.record_db.proofs.search.find_id.Given as goal

abbrev pub invariant-loop-index : goal.invariant-loop-index
invariant-loop-index l = NoneUntil l.records.entries 0 l.index (HasId l.id)
