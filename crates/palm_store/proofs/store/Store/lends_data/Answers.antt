-- Whether data is lent is the same of the store as of the heap inside.
use Rattle.palm_store.proofs.Words.{subst, ◌↔◌, IsTrue, Any, Memory, IsLent, Db, named_under}
use Rattle.palm_store.proofs.store.Store.lends_data.Goals as goal

pub opened_of-requires-clause-number : goal.opened_of-requires-clause-number
opened_of-requires-clause-number c = rw c.self.view_is c.requires

pub returns : goal.returns
returns c =
    subst (λ (m : Memory). IsTrue c.has_lent.result ↔ Any (IsLent m) (named_under m.bytes c.args.db.0)) c.self.view_is
    (subst (λ (db : Db). IsTrue c.has_lent.result ↔ Any (IsLent c.self.inside.heap) (named_under c.self.inside.heap.bytes db.0)) c.opened_of.ensures.db c.has_lent.ensures)
