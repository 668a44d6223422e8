-- `greatest_id_in` returns the greatest of an ID and those of a database's records, by the laws of
-- IdLaws.
use Rattle.std.proofs.Common.{arith}
use Rattle.store_check.proofs.IdLaws.{greatest_in}
use Rattle.store_check.proofs.ids.greatest_id_in.Goals as goal

pub loop-index-init : goal.loop-index-init
loop-index-init c = record {
  ids = λ earlier id below e. absurd (omega arith);
  above = omega arith;
  small = c.requires.small;
}

pub loop-index-preserved : goal.loop-index-preserved
loop-index-preserved c =
    let small = c.loop-index.invariant.small in
    greatest_in _ _ _ _ c.record_id.result c.max-greatest.result c.record_id.ensures.is
    c.record_id.ensures.small (omega arith) (omega arith) (omega arith) c.loop-index.invariant

pub returns-clause-ids : goal.returns-clause-ids
returns-clause-ids c index id inside e = c.loop-index.invariant.ids index id (omega arith) e
