use Rattle.std.proofs.Common.{◌≡◌, false, take}
use Rattle.std.specs.Prelude.{All}
use Rattle.heap_model.specs.Store.{store_of}
use Rattle.store_commands.specs.Exports.{is_spelled}
use Rattle.store_commands.proofs.exports.spelled_number.Given as goal

-- the word spells no name so far
abbrev pub invariant-loop-index : goal.invariant-loop-index
invariant-loop-index l = All (λ one. is_spelled one.database.header.name l.word ≡ false) (take l.index (store_of l.store.bytes).databases)
