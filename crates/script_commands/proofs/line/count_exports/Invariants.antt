use Rattle.std.proofs.Common.{◌≡◌, take}
use Rattle.std.specs.Prelude.{count_by}
use Rattle.script_commands.specs.LineCounts.{is_export}
use Rattle.script_commands.proofs.line.count_exports.Given as goal

abbrev pub invariant-loop-line : goal.invariant-loop-line
invariant-loop-line l = l.count ≡ count_by is_export (take l.line-index l.lines)
