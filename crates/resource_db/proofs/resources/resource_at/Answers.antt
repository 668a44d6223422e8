-- The entry of a resource database is a resource, and has data.
use Rattle.resource_db.proofs.Words.{sym, ap, ◌∙◌, is_some, resources_told, as_resource_told}
use Rattle.resource_db.proofs.Entries.{info_is, has_data}
use Rattle.resource_db.proofs.resources.resource_at.Goals as goal

pub unwrap-requires : goal.unwrap-requires
unwrap-requires c = ap is_some c.as_resource.ensures ∙ resources_told c.in_ok-found.found.item c.in_ok-found.ensures.of_kind

pub returns-clause-is : goal.returns-clause-is
returns-clause-is c = info_is _ c.unwrap.result (rw (as_resource_told c.in_ok-found.found.item c.unwrap.result (sym c.as_resource.ensures ∙ c.unwrap.ensures)) at c.in_ok-found.ensures.is)

pub returns-clause-some : goal.returns-clause-some
returns-clause-some c = has_data _ _ _ _ _ _ c.in_ok-found.ensures.accepted c.in_ok-found.ensures.found.known (returns-clause-is c)
