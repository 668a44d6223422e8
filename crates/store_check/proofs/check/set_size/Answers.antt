-- `set_size` returns a size with room for all IDs, by the laws of IdLaws.
use Rattle.std.proofs.Common.{arith}
use Rattle.store_check.proofs.IdLaws.{room_for_all}
use Rattle.store_check.proofs.check.set_size.Goals as goal

pub returns-clause-ids : goal.returns-clause-ids
returns-clause-ids c = room_for_all c.args.region.now.bytes c.greatest_id-greatest.result _
    c.greatest_id-greatest.ensures.ids (omega arith)
