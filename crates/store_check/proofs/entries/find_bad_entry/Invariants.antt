-- The loop of `find_bad_entry` keeps its invariant: no entry of the databases before this one is
-- bad, and the slots that they name are marked.
use Rattle.store_check.proofs.Lemmas.{ℕ, ◌<◌, IsBadEntry, AddsMarks, named_below}
use Rattle.store_check.proofs.entries.find_bad_entry.Given as goal

abbrev pub invariant-loop-db : goal.invariant-loop-db
invariant-loop-db l = record {
  none_bad : (db : ℕ) → db < l.db → (index : ℕ) → IsBadEntry l.region.bytes db index → ⊥;
  marked : AddsMarks (named_below l.region.bytes l.db) l.initial.marks l.marks;
}
