-- `greatest_id` returns the greatest ID of all records, by the laws of IdLaws.
use Rattle.std.proofs.Common.{arith}
use Rattle.store_check.proofs.IdLaws.{no_greatest, greatest_more, greatest_all}
use Rattle.store_check.proofs.ids.greatest_id.Goals as goal

pub loop-db-init : goal.loop-db-init
loop-db-init c = no_greatest c.args.region.now.bytes

pub loop-db-preserved : goal.loop-db-preserved
loop-db-preserved c = greatest_more _ _ _ _ c.greatest_id_in-greatest.result c.header_of.ensures
    c.greatest_id_in-greatest.ensures.ids c.greatest_id_in-greatest.ensures.least
    c.greatest_id_in-greatest.ensures.small c.loop-db.invariant

pub returns-clause-ids : goal.returns-clause-ids
returns-clause-ids c = let count = c.requires.listed.count in
    greatest_all _ _ _ (omega arith) c.loop-db.invariant
