-- The loop of `append_entries` keeps its invariant: the entries that are left make the text whole,
-- and their data ends with all of the data.
use Rattle.file_parts.proofs.AllWords.{◌≡◌, ◌+◌, ◌≤◌, ◌++◌, length, drop, data_text, entries_text, most_bytes, packed_entries}
use Rattle.file_parts.proofs.packing.append_entries.Given as goal

abbrev pub invariant-loop-index : goal.invariant-loop-index
invariant-loop-index g l = record {
  text : l.bytes.items ++ entries_text l.at (drop l.index (packed_entries l.entries l.parts))
      ≡ l.fn.bytes.items ++ entries_text l.first (packed_entries l.entries l.parts);
  size : l.at + length (data_text (drop l.index (packed_entries l.entries l.parts)))
      ≡ l.first + length (data_text (packed_entries l.entries l.parts));
  most : l.at ≤ most_bytes;
}
