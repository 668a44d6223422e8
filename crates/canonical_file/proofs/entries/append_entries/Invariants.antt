-- The loop of `append_entries` keeps its invariant: the entries that are left complete the text,
-- there is room for them, and the data that is left ends at an offset of four bytes.
use Rattle.std.proofs.Common.{◌≡◌, ◌+◌, ◌≤◌, ◌<◌, ◌^◌, ◌++◌, length, drop, vec_len, vec_capacity}
use Rattle.std.specs.List.{sum_by}
use Rattle.pdb_format.specs.Blocks.{length_within}
use Rattle.pdb_format.specs.FileTexts.{entries_text}
use Rattle.pdb_format.specs.ReadFiles.{entries_read}
use Rattle.canonical_file.specs.Written.{ids_of}
use Rattle.canonical_file.proofs.entries.append_entries.Given as goal

abbrev pub invariant-loop-index : goal.invariant-loop-index
invariant-loop-index g l = record {
  short : l.at + sum_by length_within (drop (2 + l.index) l.blocks) < 2 ^ 32;
  text : l.bytes.items
      ++ entries_text l.at (drop l.index (entries_read l.file (ids_of l.file l.ids)))
      ≡ l.fn.bytes.items ++ entries_text l.first (entries_read l.file (ids_of l.file l.ids));
  len : vec_len l.bytes
      + length (entries_text l.at (drop l.index (entries_read l.file (ids_of l.file l.ids))))
      ≡ vec_len l.fn.bytes
      + length (entries_text l.first (entries_read l.file (ids_of l.file l.ids)));
  capacity : vec_capacity l.fn.bytes ≤ vec_capacity l.bytes;
}
