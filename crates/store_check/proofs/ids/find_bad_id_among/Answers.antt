-- `find_bad_id_among` looks up and adds only IDs for which the set has room.
use Rattle.std.proofs.Common.{sym, arith}
use Rattle.store_check.proofs.ids.find_bad_id_among.Goals as goal

pub has-requires : goal.has-requires
has-requires c = let room = c.requires.room c.loop-index.index c.record_id-id.result (omega arith)
    (sym c.record_id-id.ensures.is) in omega arith

pub add-requires : goal.add-requires
add-requires c = let room = c.requires.room c.loop-index.index c.record_id-id.result (omega arith)
    (sym c.record_id-id.ensures.is) in omega arith
