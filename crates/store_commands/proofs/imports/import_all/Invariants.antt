use Rattle.std.proofs.Common.{[], ◌≡◌, take}
use Rattle.heap_model.specs.Store.{Accepted}
use Rattle.store_commands.specs.Imports.{ImportsAll}
use Rattle.store_commands.proofs.imports.import_all.Given as goal

abbrev pub invariant-loop-index : goal.invariant-loop-index
invariant-loop-index g l = record {
  imported : ImportsAll l.fn.store (take l.index l.files) l.store;
  accepted : Accepted l.store.bytes;
  lent : l.store.lents ≡ l.fn.store.lents;
}
