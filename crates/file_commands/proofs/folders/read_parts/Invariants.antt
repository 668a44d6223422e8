use Rattle.std.proofs.Common.{◌≡◌, length}
use Rattle.file_commands.proofs.folders.read_parts.Given as goal

-- there is a part for each rank so far
abbrev pub invariant-loop-rank : goal.invariant-loop-rank
invariant-loop-rank g l = length l.parts.items ≡ l.rank
