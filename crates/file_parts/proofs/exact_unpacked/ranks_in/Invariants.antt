-- The loop of `ranks_in` keeps its invariant: the ranks of the first starts are collected.
use Rattle.std.proofs.Common.{◌≡◌, map, take}
use Rattle.file_parts.proofs.exact_unpacked.ranks_in.Given as goal

abbrev pub invariant-loop-start : goal.invariant-loop-start
invariant-loop-start g l =
    l.ranks.items ≡ map (λ start. start.rank) (take l.start-index l.start-items)
