use Rattle.file_ids.proofs.FreshLaws.{GivenTo}
use Rattle.file_ids.proofs.fresh.give_fresh.Given as goal

abbrev pub invariant-loop-id : goal.invariant-loop-id
invariant-loop-id l = GivenTo l.initial.taken l.fn.seed l.initial.ids l.taken l.last l.ids l.id-index
