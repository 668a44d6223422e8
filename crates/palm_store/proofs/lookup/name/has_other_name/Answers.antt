-- The result says whether a database was found.
use Rattle.palm_store.proofs.Lookups.{other_taken}
use Rattle.palm_store.proofs.lookup.name.has_other_name.Goals as goal

pub returns : goal.returns
returns c =
    let e = c.find_named.ensures in other_taken _ _ _ _ _ e.there e.none c.is_some.ensures
