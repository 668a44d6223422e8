-- The view is that of the open database.
use Rattle.palm_store.proofs.EntriesHere.{read_here}
use Rattle.palm_store.proofs.OpenedHere.{opened_in}
use Rattle.palm_store.proofs.store.Store.database_in.Goals as goal

pub of-requires : goal.of-requires
of-requires c = c.header_in.ensures.spelled

pub returns-clause-is : goal.returns-clause-is
returns-clause-is c =
    let has = (opened_in c.self.view_is c.requires.opened).number in
    rw (← c.self.view_is) (read_here _ _ _ _ has c.header_in.ensures.is c.of.ensures)
