-- `find_bad_entry_in` returns the first bad entry of a database, or marks all slots that it names,
-- by the laws of UseLaws and PassLaws.
use Rattle.store_check.proofs.Lemmas.{◌++◌, ◌∷◌, ◌∙◌, [], ℕ, List, map, refl, sym, ap, subst, arith, false≢true, append-nil, numbered, entry_data, data_in, entry_in, database_in, HasData, HasBadEntry, HasGoodEntries, same_marks, none_more, entry_first, entries_more, entries_all, data_all}
use Rattle.store_check.proofs.entries.find_bad_entry_in.Goals as goal

pub loop-index-init : goal.loop-index-init
loop-index-init c = record {
  none_bad = λ index below. absurd (omega arith);
  marked = λ xs m. same_marks xs _ _ (sym (append-nil xs)) m;
}

pub returns-then-not-has_data-clause-some : goal.returns-then-not-has_data-clause-some
returns-then-not-has_data-clause-some c =
    entry_first c.args.region.now.bytes c.header_of-header.result.now _ c.loop-index.index
    c.header_of-header.ensures (omega arith) (λ has. false≢true
    ((c.if-not-has_data.ensures c.args.region.now.bytes c.requires.listed.heap c.requires.owners).1
    (subst (HasData c.args.region.now.bytes) (sym c.read-entry.ensures.is) has)))
    c.loop-index.invariant.none_bad

pub loop-index-preserved : goal.loop-index-preserved
loop-index-preserved c = record {
  none_bad = none_more (HasBadEntry c.args.region.now.bytes c.header_of-header.result.now)
      c.loop-index.index (λ bad. bad.1 (subst (HasData c.args.region.now.bytes)
      c.read-entry.ensures.is ((c.if-not-has_data.ensures c.args.region.now.bytes
      c.requires.listed.heap c.requires.owners).0 refl))) c.loop-index.invariant.none_bad;
  marked =
      λ xs m. same_marks _ _ _ (entries_more c.header_of-header.result.now xs c.loop-index.index _
      (c.slot.ensures ∙ ap entry_data c.read-entry.ensures.is)) (c.mark-in-loop-index.ensures (xs
      ++ map entry_data (numbered (entry_in c.header_of-header.result.now) c.loop-index.index))
      (c.loop-index.invariant.marked xs m));
}

pub returns-clause-none : goal.returns-clause-none
returns-clause-none c = subst (HasGoodEntries c.args.region.now.bytes) c.header_of-header.ensures
    (λ index bad. c.loop-index.invariant.none_bad index (let below = bad.0 in omega arith) bad)

pub returns-clause-marked : goal.returns-clause-marked
returns-clause-marked c xs m =
    let both : List ℕ = (xs ++ c.app_info.result ∷ []) ++ c.sort_info.result ∷ [] in
    same_marks _ _ _
    (entries_all c.header_of-header.result.now both c.loop-index.index (omega arith)
    ∙ data_all c.header_of-header.result.now xs _ _ c.app_info.ensures c.sort_info.ensures
    ∙ ap (λ (bytes : List ℕ). xs ++ data_in (database_in bytes)) c.header_of-header.ensures)
    (c.loop-index.invariant.marked both
    (c.mark-2.ensures (xs ++ c.app_info.result ∷ []) (c.mark.ensures xs m)))
