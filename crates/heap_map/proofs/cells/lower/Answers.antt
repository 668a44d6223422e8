-- `lower` changes no mark outside its range.
use Rattle.std.proofs.Common.{inl, inr, arith}
use Rattle.heap_map.proofs.cells.lower.Goals as goal

pub returns-clause-outside : goal.returns-clause-outside
returns-clause-outside c = λ k side. elim side [
  | inl low ↦ c.loop-k.invariant.outside k (inl low)
  | inr high ↦ c.loop-k.invariant.outside k (inr (omega arith))
]
