-- The loop of `place_ranks` keeps its invariant: the ranks so far have their offsets, and the next
-- block begins at `at`.
use Rattle.file_parts.proofs.AllLaws.{◌≡◌, ◌≤◌, length, take, data_in, most_bytes, exact_block, exact_start, ArePlaced}
use Rattle.file_parts.proofs.exact_writing.place_ranks.Given as goal

abbrev pub invariant-loop-index : goal.invariant-loop-index
invariant-loop-index g l = record {
  placed : ArePlaced (exact_block (g.S.ExactSource.exact l.source))
      (exact_start (g.S.ExactSource.exact l.source))
      (length (data_in (g.S.ExactSource.exact l.source).database))
      (take l.index (g.S.ExactSource.exact l.source).order) l.offsets l.at;
  room : length l.offsets ≡ length (data_in (g.S.ExactSource.exact l.source).database);
  most : l.at ≤ most_bytes;
}
