-- The loop of `needs_of` keeps its invariant: the needs are those of the header, the entries and
-- the blocks before this rank.
use Rattle.std.proofs.Common.{◌≡◌, ◌+◌, take}
use Rattle.std.specs.List.{sum_by}
use Rattle.heap_model.specs.Chunk.{need}
use Rattle.heap_model.specs.Files.{entries_end}
use Rattle.canonical_file.specs.BlockNeeds.{block_need, block_slots}
use Rattle.canonical_file.proofs.needs.needs_of.Given as goal

abbrev pub invariant-loop-rank : goal.invariant-loop-rank
invariant-loop-rank g l = record {
  bytes : l.bytes ≡ need (entries_end l.file) + sum_by block_need (take l.rank l.blocks);
  slots : l.slots ≡ 1 + sum_by block_slots (take l.rank l.blocks);
}
