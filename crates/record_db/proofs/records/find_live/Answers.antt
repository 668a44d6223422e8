-- A record that is not deleted has data.
use Rattle.std.proofs.Common.{sym, ◌∙◌}
use Rattle.record_db.proofs.Entries.{has_data}
use Rattle.record_db.proofs.records.find_live.Goals as goal

pub unwrap-requires : goal.unwrap-requires
unwrap-requires c = has_data c.args.store.now.bytes c.args.db c.args.index c.in_ok-found.found.item c.in_ok-found.ensures.accepted c.in_ok-found.ensures.found.known c.in_ok-found.ensures.is (sym c.is_deleted.ensures ∙ c.if-is_deleted.false)
