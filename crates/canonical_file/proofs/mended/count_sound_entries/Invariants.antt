-- The loop of `count_sound_entries` keeps its invariant: the sound ones of the entries before the
-- index are counted.
use Rattle.std.proofs.Common.{◌≡◌, ◌≤◌, length}
use Rattle.canonical_file.proofs.SoundEntries.{first_sound}
use Rattle.canonical_file.proofs.mended.count_sound_entries.Given as goal

-- the sound ones of the entries before the index are counted
abbrev pub invariant-loop-index : goal.invariant-loop-index
invariant-loop-index l = record {
  same : l.count ≡ length (first_sound l.file l.index);
  few : l.count ≤ l.index;
}
