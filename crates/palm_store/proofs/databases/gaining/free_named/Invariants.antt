-- The chunks of the names that were passed are freed, and nothing else has changed.
use Rattle.palm_store.proofs.Words.{take, Leaves, OnlyWrites, held, all_gone, numbers_in}
use Rattle.palm_store.proofs.databases.gaining.free_named.Given as goal

abbrev pub invariant-loop-index : goal.invariant-loop-index
invariant-loop-index l = record {
  leaves : Leaves l.fn.heap.bytes l.heap.bytes (all_gone (held l.fn.heap.bytes) (take l.index (numbers_in l.names)));
  kept : OnlyWrites l.fn.heap l.heap;
}
