-- The chunks of the slots that were passed are freed, and nothing else has changed.
use Rattle.palm_store.proofs.Words.{take, Leaves, OnlyWrites, held, all_gone, StandsAs, named_under}
use Rattle.palm_store.proofs.databases.clearing.free_data.Given as goal

abbrev pub invariant-loop-index : goal.invariant-loop-index
invariant-loop-index l = record {
  leaves : Leaves l.fn.heap.bytes l.heap.bytes (all_gone (held l.fn.heap.bytes) (take l.index (named_under l.fn.heap.bytes l.opened.db.0)));
  stands : StandsAs l.heap.bytes l.opened.db.0 l.opened.chunk;
  kept : OnlyWrites l.fn.heap l.heap;
}
