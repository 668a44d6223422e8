-- The loop of `put_entries` keeps its invariant: the entries so far are at the start, and those
-- after them are unchanged.
use Rattle.palmheap_c.proofs.Words.{◌≡◌, drop, take, numbered, file_entry_at}
use Rattle.palmheap_c.proofs.file_entries.put_entries.Given as goal

abbrev pub invariant-loop-index : goal.invariant-loop-index
invariant-loop-index l = (take l.index l.to ≡ numbered (file_entry_at l.file) l.index)
    × (drop l.index l.to ≡ drop l.index l.initial.to)
