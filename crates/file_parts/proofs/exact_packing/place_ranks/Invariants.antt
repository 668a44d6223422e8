-- The loop of `place_ranks` keeps its invariant: the ranks so far have their offsets, and the next
-- block begins at `at`.
use Rattle.file_parts.proofs.AllLaws.{◌≡◌, ◌≤◌, length, take, data_in, most_bytes, database_listed, exact_block, exact_start, exact_packed, ArePlaced}
use Rattle.file_parts.proofs.exact_packing.place_ranks.Given as goal

abbrev pub invariant-loop-index : goal.invariant-loop-index
invariant-loop-index l = record {
  placed : ArePlaced (exact_block (exact_packed l.exact l.parts))
      (exact_start (exact_packed l.exact l.parts))
      (length (data_in (database_listed l.exact.listed)))
      (take l.index l.exact.ranks.items) l.offsets l.at;
  room : length l.offsets ≡ length (data_in (database_listed l.exact.listed));
  most : l.at ≤ most_bytes;
}
