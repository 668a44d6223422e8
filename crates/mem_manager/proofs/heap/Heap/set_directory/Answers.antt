-- Another directory is named, and all else stays.
use Rattle.mem_manager.proofs.Laws.{inr, same_lents, managed_named, named_still, keeps_map}
use Rattle.mem_manager.proofs.heap.Heap.set_directory.Goals as goal

pub set_directory-requires : goal.set_directory-requires
set_directory-requires c = record { managers = inr (rw (← c.self.view_is) at c.requires.managers) }

pub invariant_of-self : goal.invariant_of-self
invariant_of-self c =
    managed_named c.self.invariant c.set_directory.ensures.heap c.set_directory.ensures.names

pub returns-clause-loan : goal.returns-clause-loan
returns-clause-loan c =
    rw (← c.self.view_is)
    (keeps_map c.set_directory.new.self c.self.invariant.heap (same_lents c.set_directory.ensures.rest)
    (named_still c.set_directory.ensures.names) c.set_directory.ensures.names.map)
