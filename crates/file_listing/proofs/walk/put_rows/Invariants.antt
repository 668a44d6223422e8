use Rattle.std.proofs.Common.{drop, Bool}
use Rattle.std.specs.List.{flat_map}
use Rattle.palm_text.specs.Counted.{Writing, Writes}
use Rattle.file_listing.proofs.walk.put_rows.Given as goal

-- whatever is written from here on completes the rows
abbrev pub invariant-loop-row : goal.invariant-loop-row
invariant-loop-row g l = (new : Writing g.row.W.Denot) (ok : Bool) → Writes g.W.Write.contents l.out new (flat_map (g.N.Notation.row_text l.notation) (drop l.row-index l.rows)) ok → Writes g.W.Write.contents l.fn.out new (flat_map (g.N.Notation.row_text l.notation) l.rows) ok
