-- The loop of `read_entries` keeps its invariant: what is read goes on from the entries so far.
use Rattle.file_parts.proofs.AllWords.{◌≡◌, ◌≤◌, [], length, All, IsGoodEntry, entries_listed, read_entries}
use Rattle.file_parts.proofs.entries.read_entries.Given as goal

abbrev pub invariant-loop-line : goal.invariant-loop-line
invariant-loop-line g l = record {
  goes_on : read_entries l.resources [] l.fn.lines.number l.fn.lines.texts
      ≡ read_entries l.resources (entries_listed l.entries.items) l.lines.number l.lines.texts;
  few : length l.entries.items ≤ 65535;
  good : All (IsGoodEntry l.resources) l.entries.items;
}

abbrev pub decreases-loop-line : goal.decreases-loop-line
decreases-loop-line g l = length l.lines.texts
