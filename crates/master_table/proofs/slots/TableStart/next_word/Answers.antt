use Rattle.std.proofs.Common.{arith}
use Rattle.laws_heap.proofs.Tables.{chained_behind}
use Rattle.master_table.proofs.slots.TableStart.next_word.Goals as goal

pub overflow_sub-result : goal.overflow_sub-result
overflow_sub-result c = let four = chained_behind c.args.region.now.bytes c.requires.chained in let is = c.head_end.ensures in omega (arith, four, is)
