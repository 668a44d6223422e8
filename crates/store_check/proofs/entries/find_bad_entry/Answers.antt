-- `find_bad_entry` returns the first bad entry, or marks all slots that databases name, by the laws
-- of UseLaws and PassLaws.
use Rattle.store_check.proofs.Lemmas.{◌++◌, refl, sym, arith, append-nil, same_marks, entries_passed, named_below, named_more, named_all}
use Rattle.store_check.proofs.entries.find_bad_entry.Goals as goal

pub loop-db-init : goal.loop-db-init
loop-db-init c = record {
  none_bad = λ db below. absurd (omega arith);
  marked = λ xs m. same_marks xs _ _ (sym (append-nil xs)) m;
}

pub loop-db-preserved : goal.loop-db-preserved
loop-db-preserved c = record {
  none_bad = entries_passed c.args.region.now.bytes c.loop-db.db c.in_default.ensures.none
      c.loop-db.invariant.none_bad;
  marked = λ xs m. same_marks _ _ _ (named_more c.args.region.now.bytes xs _ c.loop-db.db refl)
      (c.in_default.ensures.marked (xs ++ named_below c.args.region.now.bytes c.loop-db.db)
      (c.loop-db.invariant.marked xs m));
}

pub returns-clause-marked : goal.returns-clause-marked
returns-clause-marked c xs m = same_marks _ _ _ (named_all c.args.region.now.bytes xs c.loop-db.db
    (let count = c.requires.listed.count in omega arith)) (c.loop-db.invariant.marked xs m)
