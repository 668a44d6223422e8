use Rattle.std.proofs.Common.{[], ◌≡◌, ◌<◌, ◌≤◌, ◌-◌, length, take}
use Rattle.std.specs.Io.KnownBytes.{Keeps, prepend_known}
use Rattle.command_files.proofs.region_input.read_region_from.Given as goal

-- what was read and what is left are what the reader had
abbrev pub invariant-loop-region : goal.invariant-loop-region
invariant-loop-region g l = record {
  size : length l.region.bytes ≡ l.fn.size;
  inside : l.at ≤ length l.region.bytes;
  whole : l.region.lents ≡ [];
  room : 0 < length l.turn.items;
  kept : Keeps (g.R.Read.remaining l.initial.reader) (prepend_known (take l.at l.region.bytes) (g.R.Read.remaining l.reader));
}

abbrev pub decreases-loop-region : goal.decreases-loop-region
decreases-loop-region g l = length l.region.bytes - l.at
