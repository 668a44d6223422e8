-- The loop of `starts_in` keeps its invariant: the starts of the first ranks are collected.
use Rattle.file_parts.proofs.AllLaws.{◌≡◌, offsets_in, first_starts}
use Rattle.file_parts.proofs.exact_unpacked.starts_in.Given as goal

abbrev pub invariant-loop-rank : goal.invariant-loop-rank
invariant-loop-rank g l = l.starts.items ≡ first_starts (offsets_in l.file) l.rank
