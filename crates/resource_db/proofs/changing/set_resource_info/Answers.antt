-- The resource keeps its data, and only its type and ID change.
use Rattle.resource_db.proofs.Words.{refl, true, a_resource, with_type_and_id, changes}
use Rattle.palm_store.specs.EntryInfos.{with_info}
use Rattle.palm_store.specs.declared.entries.infos.EntryInfo.TheVariants as infos
use Rattle.palm_store.proofs.EntriesChanged.{set_as}
use Rattle.resource_db.proofs.changing.set_resource_info.Goals as goal

pub returns-clause-does : goal.returns-clause-does
returns-clause-does c =
    let found = c.in_ok-resource.ensures in
    let info = c.in_ok-resource.resource.item in
    let leaves = set_as true _ _ _ _ (a_resource info.kind info.id info.«data».0) (with_info (infos.Resource c.args.kind c.args.id)) (with_type_and_id c.args.kind c.args.id) found.accepted found.found.known found.is refl (rw found.found.db at c.entry_set.ensures.set) in
    changes _ _ _ _ _ (λ slots. refl) found.accepted leaves (found.passes, (tt, leaves.same)) c.entry_set.ensures.kept.loan tt c.entry_set.ensures.kept.rest
