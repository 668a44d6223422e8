-- The loop of `find_bad_id_among` keeps its invariant: the set has the IDs before the index, of
-- which none is bad.
use Rattle.store_check.proofs.IdLaws.{Walked}
use Rattle.store_check.proofs.ids.find_bad_id_among.Given as goal

abbrev pub invariant-loop-index : goal.invariant-loop-index
invariant-loop-index l = Walked l.header l.seen l.index
