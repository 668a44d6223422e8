use Rattle.heap_check.proofs.SlotLaws.{none_marked}
use Rattle.test_tables.proofs.chains.owners_are_noted_by_the_words_of_slots.Goals as goal

pub check_heap_noting-requires-clause-clear : goal.check_heap_noting-requires-clause-clear
check_heap_noting-requires-clause-clear g c = none_marked 32
