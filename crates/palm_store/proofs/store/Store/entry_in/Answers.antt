-- The fields are those of the entry that stands at the index.
use Rattle.palm_store.proofs.Laws.{◌∙◌, entry_under, Tells, store_of, entry_of, entry_here, IsOpened, of_entry}
use Rattle.palm_store.proofs.store.Store.entry_in.Goals as goal

pub returns : goal.returns
returns c =
    let opened : IsOpened c.self.inside.heap.bytes c.args.opened =
    rw c.self.view_is c.requires.opened in
    rw (← c.self.view_is) (let image = c.self.inside.heap.bytes in
    let db = c.args.opened.db in
    of_entry (entry_under (store_of image) db c.args.index) (entry_of c.read_entry.result)
    (Tells c.told.result)
    (entry_here _ db _ opened.number ∙ c.read_entry.ensures.is) c.told.ensures)
