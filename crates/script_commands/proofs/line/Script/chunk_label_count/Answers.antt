use Rattle.std.proofs.Common.{sym}
use Rattle.script_commands.specs.LineCounts.{chunk_label_end}
use Rattle.script_commands.proofs.CountLaws.{each_at_most}
use Rattle.script_commands.proofs.line.Script.chunk_label_count.Goals as goal

-- the value that contracts see is the list of the lines, of which the invariant speaks
pub returns-clause-below : goal.returns-clause-below
returns-clause-below c = rw (sym c.self.view_is) (each_at_most chunk_label_end c.self.inside.lines.items c.self.inside.chunk_label_count c.self.invariant.0)
