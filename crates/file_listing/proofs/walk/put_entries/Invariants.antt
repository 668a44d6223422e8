use Rattle.std.proofs.Common.{drop, Bool}
use Rattle.std.specs.List.{flat_map}
use Rattle.palm_text.specs.Counted.{Writing, Writes}
use Rattle.file_listing.specs.Listing.{entry_rows}
use Rattle.file_listing.proofs.walk.put_entries.Given as goal

-- whatever is written from here on completes the rows
abbrev pub invariant-loop-index : goal.invariant-loop-index
invariant-loop-index g l = (new : Writing g.row.W.Denot) (ok : Bool) → Writes g.W.Write.contents l.out new (flat_map (g.N.Notation.row_text l.notation) (drop l.index (entry_rows l.file l.categories))) ok → Writes g.W.Write.contents l.fn.out new (flat_map (g.N.Notation.row_text l.notation) (entry_rows l.file l.categories)) ok
