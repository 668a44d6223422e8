-- The loop of `find_bad_entry_in` keeps its invariant: no entry before the index is bad, and the
-- slots that they name are marked.
use Rattle.store_check.proofs.Terms.{ℕ, ◌<◌, map, numbered, entry_data, entry_in, HasBadEntry, AddsMarks}
use Rattle.store_check.proofs.entries.find_bad_entry_in.Given as goal

abbrev pub invariant-loop-index : goal.invariant-loop-index
invariant-loop-index l = record {
  none_bad : (index : ℕ) → index < l.index → HasBadEntry l.region.bytes l.header index → ⊥;
  marked : AddsMarks (map entry_data (numbered (entry_in l.header) l.index)) l.initial.marks
      l.marks;
}
