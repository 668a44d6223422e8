-- The loop of `put_entry_lines` keeps its invariant: the lines about the entries that are left
-- complete the text.
use Rattle.std.proofs.Common.{drop, Bool}
use Rattle.std.specs.List.{concat}
use Rattle.heap_model.specs.Lists.{numbered}
use Rattle.palm_text.specs.Counted.{Writing, Writes}
use Rattle.canonical_file.specs.Salvage.{lost_entry_lines, lost_entry_line, whole_entries}
use Rattle.canonical_file.proofs.salvage_lines.put_entry_lines.Given as goal

-- whatever is written from here on completes the lines
abbrev pub invariant-loop-index : goal.invariant-loop-index
invariant-loop-index g l =
    (new : Writing g.row.W.Denot) (ok : Bool) → Writes g.W.Write.contents l.out new
    (concat (drop l.index (numbered (lost_entry_line l.file) (whole_entries l.file)))) ok → Writes
    g.W.Write.contents l.fn.out new (lost_entry_lines l.file) ok
