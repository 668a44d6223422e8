use Rattle.std.proofs.Common.{◌<◌, ◌≤◌, ◌-◌, vec_len, length}
use Rattle.std.specs.Io.KnownBytes.{Keeps, prepend_known}
use Rattle.program_io.proofs.input.read_within.Given as goal

-- what was read and what is left are what the reader had
abbrev pub invariant-loop-bytes : goal.invariant-loop-bytes
invariant-loop-bytes g l = record {
  limit : vec_len l.bytes ≤ l.most;
  room : 0 < length l.turn.items;
  kept : Keeps (g.R.Read.remaining l.initial.reader) (prepend_known l.bytes.items (g.R.Read.remaining l.reader));
}

abbrev pub decreases-loop-bytes : goal.decreases-loop-bytes
decreases-loop-bytes g l = l.most - vec_len l.bytes
