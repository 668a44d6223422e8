-- The view is that of the database of the number.
use Rattle.palm_store.proofs.EntriesHere.{read_here}
use Rattle.palm_store.proofs.store.Store.find_database.Goals as goal

pub of-requires : goal.of-requires
of-requires c = c.in_ok-header.ensures.spelled

pub returns-clause-is : goal.returns-clause-is
returns-clause-is c =
    let header = c.in_ok-header.ensures in
    rw (← c.self.view_is) (read_here _ _ _ _ header.known header.is c.of.ensures)
