-- The loop of `have_places` keeps its invariant: the data of the entries so far is inside.
use Rattle.palmheap_c.proofs.Words.{◌≡◌, true, take, list_all, has_data_inside}
use Rattle.palmheap_c.proofs.writing.have_places.Given as goal

abbrev pub invariant-loop-entry : goal.invariant-loop-entry
invariant-loop-entry l = list_all (has_data_inside l.size) (take l.entry-index l.entries) ≡ true
