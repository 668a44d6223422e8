use Rattle.std.proofs.Common.{take}
use Rattle.std.specs.List.{AllZip}
use Rattle.heap_model.specs.Store.{store_of}
use Rattle.store_commands.specs.Exports.{IsFileNamed}
use Rattle.store_commands.proofs.exports.named_files.Given as goal

abbrev pub invariant-loop-index : goal.invariant-loop-index
invariant-loop-index g l = AllZip (IsFileNamed (store_of l.store.bytes)) (take l.index l.words) l.files.items
