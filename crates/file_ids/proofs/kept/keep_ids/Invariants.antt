use Rattle.heap_model.specs.Database.{database_in}
use Rattle.heap_model.specs.Store.{unique_ids}
use Rattle.file_ids.proofs.KeptLaws.{KeptTo}
use Rattle.file_ids.proofs.kept.keep_ids.Given as goal

abbrev pub invariant-loop-index : goal.invariant-loop-index
invariant-loop-index g l = KeptTo (unique_ids (database_in l.file)) l.taken l.ids l.index
