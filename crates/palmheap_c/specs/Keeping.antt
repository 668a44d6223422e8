-- A `Kept` after a borrow of its store has ended: it holds the store that the borrow left.
use Rattle.std.specs.Borrow.{Fml, MutBor, Lends}
use Rattle.heap_model.specs.Memory.{Memory}
use Rattle.palmheap_c.specs.Opened.{Opened}
use Rattle.palm_store.specs.contracts.store.Store as stores
use Rattle.palmheap_c.specs.declared.kept.Kept.{Kept}
use Rattle.palmheap_c.specs.contracts.kept.Kept.{the_row}
use Rattle.palmheap_c.specs.contracts.kept.Held as held

abbrev pub with_store : Kept → Opened → Kept
with_store kept store = record { at = kept.at; store = store }

abbrev pub with_memory : Kept → Memory → Kept
with_memory kept memory = with_store kept (record kept.store { memory = memory })

abbrev pub lends_held : MutBor Kept → MutBor Opened → Fml
lends_held kept store = Lends the_row held.the_row kept store (with_store kept.now)

abbrev pub lends_store : MutBor Kept → MutBor Memory → Fml
lends_store kept store = Lends the_row stores.the_row kept store (with_memory kept.now)
