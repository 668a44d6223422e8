use Rattle.record_db.proofs.Words.{HasId, entries_read, found_or_none}
use Rattle.record_db.proofs.records.has_id.Goals as goal

pub returns : goal.returns
returns c = rw (entries_read _ c.args.opened.db c.database_in.result c.database_in.ensures.is) (found_or_none c.database_in.result.entries (HasId c.args.id) c.find_id.result c.is_some.result c.is_some.ensures c.find_id.ensures.is c.find_id.ensures.none)
