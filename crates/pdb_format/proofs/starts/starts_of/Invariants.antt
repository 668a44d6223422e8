-- The loop of `starts_of` keeps its invariant: the starts are those of the ranks before this one.
use Rattle.std.proofs.Common.{◌≡◌}
use Rattle.heap_model.specs.Files.{offsets_in}
use Rattle.pdb_format.proofs.SortedStarts.{first_starts}
use Rattle.pdb_format.proofs.starts.starts_of.Given as goal

abbrev pub invariant-loop-rank : goal.invariant-loop-rank
invariant-loop-rank g l =
    l.starts.items ≡ first_starts (offsets_in (g.B.FileBytes.bytes l.file)) l.rank
