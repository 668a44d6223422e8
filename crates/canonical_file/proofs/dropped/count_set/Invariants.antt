-- The loop of `count_set` keeps its invariant: the count is that of the bytes before this one.
use Rattle.std.proofs.Common.{◌≡◌, ◌≤◌, take}
use Rattle.std.specs.Prelude.{count_by}
use Rattle.canonical_file.specs.Dropped.{is_set}
use Rattle.canonical_file.proofs.dropped.count_set.Given as goal

abbrev pub invariant-loop-byte : goal.invariant-loop-byte
invariant-loop-byte l = record {
  same : l.count ≡ count_by is_set (take l.byte-index l.bytes);
  few : l.count ≤ l.byte-index;
}
