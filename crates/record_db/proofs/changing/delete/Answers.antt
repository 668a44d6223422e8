-- The data of a record that is not deleted has a name.
use Rattle.record_db.proofs.Words.{a_record, data_named}
use Rattle.record_db.proofs.changing.delete.Goals as goal

pub is_locked-requires : goal.is_locked-requires
is_locked-requires c = data_named _ _ _ _ c.in_ok-live.ensures.accepted c.in_ok-live.ensures.found.known c.in_ok-live.ensures.is c.in_ok-live.ensures.some
