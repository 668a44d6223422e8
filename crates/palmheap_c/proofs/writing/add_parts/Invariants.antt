-- The loop of `add_parts` keeps its invariant: the parts of the entries so far are added.
use Rattle.palmheap_c.proofs.Words.{◌≡◌, ◌++◌, take, map, part_from_c}
use Rattle.palmheap_c.proofs.writing.add_parts.Given as goal

abbrev pub invariant-loop-entry : goal.invariant-loop-entry
invariant-loop-entry l = l.parts.items
    ≡ l.initial.parts.items ++ map (part_from_c l.bytes) (take l.entry-index l.entries)
