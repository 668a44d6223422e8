-- Each turn deletes the next record of the category.
use Rattle.record_db.proofs.Laws.{◌∙◌, refl, arith, store_of, entries_in, writes_then, here, deleted_none, deleted_next, deleted_all, first_inside, kind_there, passed_to, next_unlocked, within_some}
use Rattle.laws_heap.proofs.KeptLoans.{keeps_itself}
use Rattle.palm_store.proofs.EntriesHere.{count_fits}
use Rattle.record_db.proofs.categories.delete_all_of.Goals as goal

pub loop-index-init : goal.loop-index-init
loop-index-init c = record {
  deleted = deleted_none _ _ _ (here _ _ c.requires.accepted c.requires.opened.number) c.requires.accepted;
  within = omega arith;
  opened = c.requires.opened;
  none_made = λ name there. there;
  kept = record { loan = keeps_itself c.args.store.now; rest = refl };
}

pub next_of-requires-clause-records : goal.next_of-requires-clause-records
next_of-requires-clause-records c = kind_there c.loop-index.invariant.deleted ∙ c.requires.records

pub entry_free_data-requires : goal.entry_free_data-requires
entry_free_data-requires c = record {
  opened = c.loop-index.invariant.opened;
  records = kind_there c.loop-index.invariant.deleted ∙ c.requires.records;
  inside = within_some (entries_in (store_of c.loop-index.store.bytes) c.args.opened.db) c.in-Some.index _ c.in-Some.ensures.is.here.1;
  unlocked = next_unlocked (passed_to c.loop-index.invariant.deleted c.in-Some.ensures.is) c.requires.unlocked c.in-Some.ensures.is.here.1;
}

pub overflow_add-from : goal.overflow_add-from
overflow_add-from c = omega (arith, count_fits c.args.store.now.bytes c.args.opened.db c.requires.accepted c.requires.opened.number, first_inside c.loop-index.invariant.deleted c.in-Some.ensures.is)

pub loop-index-preserved : goal.loop-index-preserved
loop-index-preserved c = record {
  deleted = deleted_next c.loop-index.invariant.deleted c.in-Some.ensures.is c.entry_free_data.ensures.freed c.entry_free_data.ensures.none_made;
  within = omega (arith, first_inside c.loop-index.invariant.deleted c.in-Some.ensures.is);
  opened = c.entry_free_data.ensures.opened;
  none_made = λ name there. c.loop-index.invariant.none_made name (c.entry_free_data.ensures.none_made name there);
  kept = writes_then _ _ _ c.loop-index.invariant.kept c.entry_free_data.ensures.kept;
}

pub loop-index-smaller : goal.loop-index-smaller
loop-index-smaller c = omega (arith, c.in-Some.ensures.is.here.0, first_inside c.loop-index.invariant.deleted c.in-Some.ensures.is)

pub returns-clause-deleted : goal.returns-clause-deleted
returns-clause-deleted c = deleted_all c.loop-index.invariant.deleted c.in_default.ensures.none c.loop-index.invariant.within
