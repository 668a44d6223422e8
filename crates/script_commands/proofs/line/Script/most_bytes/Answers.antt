use Rattle.std.proofs.Common.{sym}
use Rattle.script_commands.specs.LineCounts.{byte_count}
use Rattle.script_commands.proofs.CountLaws.{each_at_most}
use Rattle.script_commands.proofs.line.Script.most_bytes.Goals as goal

-- the value that contracts see is the list of the lines, of which the invariant speaks
pub returns-clause-each : goal.returns-clause-each
returns-clause-each c = rw (sym c.self.view_is) (each_at_most byte_count c.self.inside.lines.items c.self.inside.most_bytes c.self.invariant.2)
