-- The records of the category before the index where the search goes on are deleted. Nothing else
-- has changed.
use Rattle.record_db.proofs.Laws.{◌≤◌, ◌-◌, length, store_of, entries_in, MakesNone, OnlyWrites, DeletedTo}
use Rattle.palm_store.specs.Opened.{IsOpened}
use Rattle.record_db.proofs.categories.delete_all_of.Given as goal

abbrev pub invariant-loop-index : goal.invariant-loop-index
invariant-loop-index l = record {
  deleted : DeletedTo l.initial.store.bytes l.store.bytes l.opened.db l.category l.from;
  within : l.from ≤ length (entries_in (store_of l.initial.store.bytes) l.opened.db);
  opened : IsOpened l.store.bytes l.opened;
  none_made : MakesNone l.initial.store.bytes l.store.bytes;
  kept : OnlyWrites l.initial.store l.store;
}

abbrev pub decreases-loop-index : goal.decreases-loop-index
decreases-loop-index l = length (entries_in (store_of l.initial.store.bytes) l.opened.db) - l.from
