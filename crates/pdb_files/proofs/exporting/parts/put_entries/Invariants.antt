-- The loop of `put_entries` keeps its invariant: the data of the entries that are left has room,
-- and whatever is written from here on completes the entries.
use Rattle.pdb_files.proofs.Words.{◌≡◌, ◌+◌, Bool, length, drop, Writing, Writes, entries_text, data_text, content_of}
use Rattle.pdb_files.proofs.exporting.parts.put_entries.Given as goal

abbrev pub invariant-loop-index : goal.invariant-loop-index
invariant-loop-index g l = record {
  left : l.at + length (data_text (drop l.index (content_of l.store.bytes l.bytes).entries))
      ≡ l.first + length (data_text (content_of l.store.bytes l.bytes).entries);
  completed : (new : Writing g.row.W.Denot) (ok : Bool) → Writes g.W.Write.contents l.out new
      (entries_text l.at (drop l.index (content_of l.store.bytes l.bytes).entries)) ok
      → Writes g.W.Write.contents l.fn.out new
      (entries_text l.first (content_of l.store.bytes l.bytes).entries) ok;
}
