use Rattle.std.proofs.Common.{Bool, drop}
use Rattle.std.specs.List.{flat_map}
use Rattle.palm_text.specs.Counted.{Writing, Writes}
use Rattle.store_commands.specs.Databases.{listed_row_line}
use Rattle.store_commands.proofs.databases.put_rows.Given as goal

-- whatever is written from here on completes the lines
abbrev pub invariant-loop-index : goal.invariant-loop-index
invariant-loop-index g l = (new : Writing g.row.W.Denot) (ok : Bool) → Writes g.W.Write.contents l.out new (flat_map listed_row_line (drop l.index l.rows)) ok → Writes g.W.Write.contents l.fn.out new (flat_map listed_row_line l.rows) ok
