-- The entry is of the kind of the database.
use Rattle.palm_store.proofs.Words.{subst, Db, IsTold}
use Rattle.palm_store.proofs.OpenedEntries.{told_kind}
use Rattle.palm_store.proofs.opening.find_entry.Goals as goal

pub returns-clause-of_kind : goal.returns-clause-of_kind
returns-clause-of_kind c =
    let image = c.args.store.now.bytes in
    let opened = c.in_ok-opened.ensures in
    let told = subst (λ (db : Db). IsTold image db c.args.index c.entry_in.result)
    opened.db c.entry_in.ensures in
    told_kind image c.args.db c.args.kind c.args.index c.entry_in.result
    opened.accepted opened.known opened.kind told
