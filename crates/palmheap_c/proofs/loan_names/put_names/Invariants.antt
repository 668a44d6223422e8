-- The loop of `put_names` keeps its invariant: the names so far are at the start, and the numbers
-- after them are unchanged.
use Rattle.palmheap_c.proofs.Words.{◌≡◌, drop, take, numbers_of_names}
use Rattle.palmheap_c.proofs.loan_names.put_names.Given as goal

abbrev pub invariant-loop-index : goal.invariant-loop-index
invariant-loop-index l = (take l.index l.to ≡ numbers_of_names (take l.index l.names))
    × (drop l.index l.to ≡ drop l.index l.initial.to)
