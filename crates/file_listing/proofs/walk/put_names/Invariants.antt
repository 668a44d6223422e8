use Rattle.std.proofs.Common.{drop, Bool, Some}
use Rattle.std.specs.List.{flat_map}
use Rattle.palm_text.specs.Counted.{Writing, Writes}
use Rattle.file_listing.specs.Listing.{category_rows}
use Rattle.file_listing.proofs.walk.put_names.Given as goal

-- whatever is written from here on completes the rows
abbrev pub invariant-loop-number : goal.invariant-loop-number
invariant-loop-number g l = (new : Writing g.row.W.Denot) (ok : Bool) → Writes g.W.Write.contents l.out new (flat_map (g.N.Notation.row_text l.notation) (drop l.number (category_rows (Some l.app)))) ok → Writes g.W.Write.contents l.fn.out new (flat_map (g.N.Notation.row_text l.notation) (category_rows (Some l.app))) ok
