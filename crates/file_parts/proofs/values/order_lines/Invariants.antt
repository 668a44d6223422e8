-- The loop of `order_lines` keeps its invariant: the ranks so far have lines.
use Rattle.std.proofs.Common.{◌≡◌, take}
use Rattle.std.specs.Prelude.{map}
use Rattle.file_parts.proofs.values.order_lines.Given as goal

abbrev pub invariant-loop-index : goal.invariant-loop-index
invariant-loop-index g l = map (λ line. line.rank) l.lines.items ≡ take l.index l.ranks
