-- The loop of `first_start` keeps its invariant: the offsets that are left give the same least one.
use Rattle.std.proofs.Common.{◌≡◌, drop}
use Rattle.std.specs.Prelude.{min, nat_lt, filter}
use Rattle.std.specs.List.{fold}
use Rattle.heap_model.specs.Files.{offsets_in}
use Rattle.pdb_format.specs.Filler as words
use Rattle.pdb_format.proofs.filler.first_start.Given as goal

-- the offsets that are left give the same least one
abbrev pub invariant-loop-rank : goal.invariant-loop-rank
invariant-loop-rank g l =
    fold min l.first (filter (nat_lt 0) (drop l.rank (offsets_in (g.B.FileBytes.bytes l.file))))
    ≡ words.first_start (g.B.FileBytes.bytes l.file)
