-- The loop of `greatest_id_in` keeps its invariant: the ID is the greatest of those before the
-- index.
use Rattle.store_check.proofs.IdLaws.{GreatestIn}
use Rattle.store_check.proofs.ids.greatest_id_in.Given as goal

abbrev pub invariant-loop-index : goal.invariant-loop-index
invariant-loop-index l = GreatestIn l.header l.fn.least l.index l.greatest
