use Rattle.std.proofs.Common.{sym, ◌∙◌}
use Rattle.record_db.proofs.Entries.{of_named}
use Rattle.record_db.proofs.records.has_locked_of.Goals as goal

pub is_locked-requires : goal.is_locked-requires
is_locked-requires c = of_named _ c.args.opened.db c.loop-index.index c.args.category c.database_in-records.result _ _ _ c.database_in-records.ensures.accepted c.database_in-records.ensures.is c.record-record.ensures (sym c.has_category.ensures ∙ c.if-has_category.true)
