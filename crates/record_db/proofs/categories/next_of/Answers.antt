use Rattle.record_db.proofs.Words.{ℕ, List, ◌∙◌, sym, subst, IfSome, IfNone, Entry, IsOf, IsFirst, NoneBehind, entries_read, kind_read}
use Rattle.record_db.proofs.categories.next_of.Goals as goal

pub first_of-requires : goal.first_of-requires
first_of-requires c = sym (kind_read _ c.args.opened.db c.database_in.result c.database_in.ensures.is) ∙ c.requires.records

pub returns : goal.returns
returns c = rw (entries_read _ c.args.opened.db c.database_in.result c.database_in.ensures.is) (record { is = c.first_of.ensures.is; none = c.first_of.ensures.none })
