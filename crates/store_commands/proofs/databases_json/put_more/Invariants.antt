use Rattle.std.proofs.Common.{drop, Bool}
use Rattle.palm_text.specs.Counted.{Writing, Writes}
use Rattle.store_commands.specs.DatabasesJson.{more_json}
use Rattle.store_commands.proofs.databases_json.put_more.Given as goal

-- whatever is written from here on completes the text
abbrev pub invariant-loop-row : goal.invariant-loop-row
invariant-loop-row g l = (new : Writing g.row.W.Denot) (ok : Bool) → Writes g.W.Write.contents l.out new (more_json (drop l.row-index l.rows)) ok → Writes g.W.Write.contents l.fn.out new (more_json l.rows) ok
