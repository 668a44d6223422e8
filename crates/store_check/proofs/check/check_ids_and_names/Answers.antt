-- `check_ids_and_names` gives a set with room for all IDs, and returns no other fault if memory
-- lacks, by the laws of CheckLaws.
use Rattle.store_check.proofs.Lemmas.{ap, length, arith, IfErr-at_err, FirstBrought, own_faults, own_not_memory}
use Rattle.store_check.proofs.check.check_ids_and_names.Goals as goal

pub check_with_set-requires-clause-ids : goal.check_with_set-requires-clause-ids
check_with_set-requires-clause-ids g c db below index id inside e =
    let room = c.set_size.ensures.ids db below index id inside e in
    let len = ap length c.deref_mut.ensures.value in
    let size = c.in-Ok.ensures.len in
    omega arith

pub returns-clause-no_memory : goal.returns-clause-no_memory
returns-clause-no_memory g c e = absurd (own_not_memory c.args.region.now.bytes (IfErr-at_err
    (FirstBrought (own_faults c.args.region.now.bytes)) e c.check_with_set.ensures.fault))
