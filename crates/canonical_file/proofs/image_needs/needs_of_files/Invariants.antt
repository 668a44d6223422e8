-- The loop of `needs_of_files` keeps its invariant: the needs are those of the files before the
-- index, at most `enough`.
use Rattle.std.proofs.Common.{◌≡◌, take}
use Rattle.std.specs.Prelude.{min}
use Rattle.std.specs.List.{sum_by}
use Rattle.canonical_file.specs.Needs.{enough, file_bytes, file_slots}
use Rattle.canonical_file.proofs.image_needs.needs_of_files.Given as goal

abbrev pub invariant-loop-index : goal.invariant-loop-index
invariant-loop-index l = record {
  bytes : l.bytes ≡ min enough (sum_by file_bytes (take l.index l.files));
  slots : l.slots ≡ min enough (sum_by file_slots (take l.index l.files));
}
