-- The loop of `append_sound_entries` keeps its invariant: the sound ones of the entries before the
-- index are appended.
use Rattle.std.proofs.Common.{◌≡◌, ◌+◌, ◌≤◌, ◌++◌, length, vec_len, vec_capacity}
use Rattle.std.specs.List.{flat_map}
use Rattle.heap_model.specs.Database.{entry_bytes}
use Rattle.canonical_file.proofs.SoundEntries.{first_sound}
use Rattle.canonical_file.proofs.mended.append_sound_entries.Given as goal

-- the sound ones of the entries before the index are appended
abbrev pub invariant-loop-index : goal.invariant-loop-index
invariant-loop-index l = record {
  text : l.bytes.items ≡ l.fn.bytes.items ++ flat_map entry_bytes (first_sound l.file l.index);
  len : vec_len l.bytes
      ≡ vec_len l.fn.bytes + length (flat_map entry_bytes (first_sound l.file l.index));
  capacity : vec_capacity l.fn.bytes ≤ vec_capacity l.bytes;
}
