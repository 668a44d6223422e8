use Rattle.std.proofs.Common.{◌≡◌, take, map}
use Rattle.heap_model.specs.Store.{store_of}
use Rattle.store_commands.specs.Exports.{file_for}
use Rattle.store_commands.proofs.exports.all_files.Given as goal

abbrev pub invariant-loop-index : goal.invariant-loop-index
invariant-loop-index g l = l.files.items ≡ map (file_for (store_of l.store.bytes)) (take l.index (store_of l.store.bytes).databases)
