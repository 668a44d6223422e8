-- `check_with_marks` gives `check_area` clear marks, by the laws of SlotLaws.
use Rattle.heap_check.proofs.Laws.{false, refl, met_owner, none_said}
use Rattle.heap_check.proofs.check.check_with_marks.Goals as goal

pub check_area-requires-clause-clear : goal.check_area-requires-clause-clear
check_area-requires-clause-clear c = none_said met_owner false refl 65536
