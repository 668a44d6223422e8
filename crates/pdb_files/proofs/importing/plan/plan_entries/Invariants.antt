-- The loop of `plan_entries` keeps its invariant: the entries before this one are planned.
use Rattle.pdb_files.specs.Plans.{ArePlannedOf}
use Rattle.pdb_files.proofs.importing.plan.plan_entries.Given as goal

abbrev pub invariant-loop-index : goal.invariant-loop-index
invariant-loop-index g l = ArePlannedOf l.file l.ids l.entries.items l.index
