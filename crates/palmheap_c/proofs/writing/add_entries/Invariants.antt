-- The loop of `add_entries` keeps its invariant: the entries so far are added.
use Rattle.palmheap_c.proofs.Words.{◌≡◌, take, with_all}
use Rattle.file_parts.specs.Listed.{IsListed, database_listed}
use Rattle.palmheap_c.proofs.writing.add_entries.Given as goal

abbrev pub invariant-loop-entry : goal.invariant-loop-entry
invariant-loop-entry l = record {
  good : IsListed l.listed;
  added : database_listed l.listed
      ≡ with_all (database_listed l.initial.listed) l.resources (take l.entry-index l.entries);
}
