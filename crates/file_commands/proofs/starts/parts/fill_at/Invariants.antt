use Rattle.std.proofs.Common.{◌≡◌, ◌≤◌, ◌-◌, length, take}
use Rattle.file_commands.specs.Starts.{IsPartOfFile}
use Rattle.file_commands.proofs.starts.parts.fill_at.Given as goal

-- the bytes that were read are a part of the file
abbrev pub invariant-loop : goal.invariant-loop
invariant-loop g l = record {
  same : g.F.ReadsAt.bytes l.file ≡ g.F.ReadsAt.bytes l.initial.file;
  len : length l.buffer ≡ length l.initial.buffer;
  inside : l.at ≤ length l.buffer;
  part : IsPartOfFile (g.F.ReadsAt.bytes l.initial.file) l.offset l.at (take l.at l.buffer);
}

abbrev pub decreases-loop : goal.decreases-loop
decreases-loop g l = length l.buffer - l.at
