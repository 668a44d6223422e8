-- None of the records that were passed is of the category and has data that is locked.
use Rattle.heap_model.specs.Store.{store_of}
use Rattle.record_db.proofs.LockedData.{NoneLocked}
use Rattle.record_db.proofs.records.has_locked_of.Given as goal

abbrev pub invariant-loop-index : goal.invariant-loop-index
invariant-loop-index l = NoneLocked (store_of l.store.bytes).map l.records.entries l.category l.index
