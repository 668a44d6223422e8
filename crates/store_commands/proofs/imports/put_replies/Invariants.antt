use Rattle.std.proofs.Common.{Bool, ◌-◌}
use Rattle.std.specs.Prelude.{replicate, codes}
use Rattle.std.specs.List.{concat}
use Rattle.palm_text.specs.Counted.{Writing, Writes}
use Rattle.store_commands.proofs.imports.put_replies.Given as goal

-- whatever is written from here on completes the lines
abbrev pub invariant-loop-done : goal.invariant-loop-done
invariant-loop-done g l = (new : Writing g.row.V.Denot) (ok : Bool) → Writes g.V.Write.contents l.out new (concat (replicate (l.count - l.done) (codes "ok\n"))) ok → Writes g.V.Write.contents l.fn.out new (concat (replicate l.count (codes "ok\n"))) ok
