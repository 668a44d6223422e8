-- The loop of `put_data` keeps its invariant: whatever is written from here on completes the data.
use Rattle.pdb_files.proofs.Words.{Bool, drop, Writing, Writes, data_text, content_of}
use Rattle.pdb_files.proofs.exporting.parts.put_data.Given as goal

abbrev pub invariant-loop-index : goal.invariant-loop-index
invariant-loop-index g l = record {
  completed : (new : Writing g.row.W.Denot) (ok : Bool) → Writes g.W.Write.contents l.out new
      (data_text (drop l.index (content_of l.store.bytes l.bytes).entries)) ok → Writes
      g.W.Write.contents l.fn.out new (data_text (content_of l.store.bytes l.bytes).entries) ok;
}
