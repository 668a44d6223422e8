-- `read_plan` returns the plan of a file's database, by the laws of Plans.
use Rattle.pdb_files.proofs.Words.{ℕ, List, sym, subst, entry_count_in, HasIdsFor, ArePlannedOf, ids_for}
use Rattle.pdb_files.proofs.Plans.{planned}
use Rattle.pdb_files.proofs.importing.plan.read_plan.Goals as goal

pub plan_entries-requires-clause-ids : goal.plan_entries-requires-clause-ids
plan_entries-requires-clause-ids g c =
    subst (HasIdsFor c.args.file.now) (sym c.deref.ensures.value) (ids_for c.args.file.now
    c.in_ok-given.given.ids.items _ _ c.in_ok-given.ensures.given c.in_ok-given.ensures.fit)

pub returns-clause-plan : goal.returns-clause-plan
returns-clause-plan g c = planned c.args.file.now c.in_ok-given.given.ids.items _
    c.in_ok-given.given.seed c.args.blocks.now c.in_ok-given.ensures.given
    c.in_ok-given.ensures.distinct c.header_of.ensures.name c.header_of.ensures.header
    c.header_of.ensures.entry_count c.header_of.ensures.few
    (subst (λ (ids : List ℕ). ArePlannedOf c.args.file.now ids c.in_ok-entries.entries.items
    (entry_count_in c.args.file.now)) c.deref.ensures.value c.in_ok-entries.ensures.planned)
    c.sizes_of.ensures.app_info c.sizes_of.ensures.sort_info c.requires.places.are
    c.requires.places.within
