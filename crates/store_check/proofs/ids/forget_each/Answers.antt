-- `forget_each` removes only IDs for which the set has room.
use Rattle.std.proofs.Common.{sym, arith}
use Rattle.store_check.proofs.ids.forget_each.Goals as goal

pub remove_byte-requires : goal.remove_byte-requires
remove_byte-requires c = let room = c.requires.room c.loop-index.index c.record_id.result
    (omega arith) (sym c.record_id.ensures.is) in omega arith
