-- The loop of `has_rising_ids` keeps its invariant: the IDs before the index rise up to the last
-- one.
use Rattle.store_check.proofs.IdLaws.{Risen}
use Rattle.store_check.proofs.ids.has_rising_ids.Given as goal

abbrev pub invariant-loop-index : goal.invariant-loop-index
invariant-loop-index l = Risen l.header l.index l.last
