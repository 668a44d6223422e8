-- `check_store_with` gives `check_noting` clear marks, by the laws of heap_check.
use Rattle.heap_check.proofs.SlotLaws.{none_marked}
use Rattle.store_check.proofs.check.check_store_with.Goals as goal

pub check_noting-requires-clause-clear : goal.check_noting-requires-clause-clear
check_noting-requires-clause-clear g c = none_marked 65536
