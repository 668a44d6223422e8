-- The loop of `forget_each` keeps its invariant: the set has only the IDs from the index on.
use Rattle.store_check.proofs.Terms.{entry_count_in, HasIdsWithin}
use Rattle.store_check.proofs.ids.forget_each.Given as goal

abbrev pub invariant-loop-index : goal.invariant-loop-index
invariant-loop-index l = HasIdsWithin l.header l.seen l.index (entry_count_in l.header)
