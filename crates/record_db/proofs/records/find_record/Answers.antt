-- The entry of a record database is a record.
use Rattle.record_db.proofs.Words.{sym, ap, ◌∙◌, is_some, records_told, as_record_told}
use Rattle.record_db.proofs.records.find_record.Goals as goal

pub unwrap-requires : goal.unwrap-requires
unwrap-requires c = ap is_some c.as_record.ensures ∙ records_told c.in_ok-found.found.item c.in_ok-found.ensures.of_kind

pub returns-clause-is : goal.returns-clause-is
returns-clause-is c = rw (as_record_told c.in_ok-found.found.item c.unwrap.result (sym c.as_record.ensures ∙ c.unwrap.ensures)) at c.in_ok-found.ensures.is
