-- The chunks of the sizes that were passed are made, and their names put down.
use Rattle.palm_store.proofs.Words.{◌≡◌, length, take, OnlySlides, data_sizes, numbers_in, MakesAll}
use Rattle.palm_store.proofs.databases.gaining.make_data.Given as goal

abbrev pub invariant-loop-index : goal.invariant-loop-index
invariant-loop-index l = record {
  made : MakesAll l.fn.heap.bytes l.heap.bytes (take l.index (data_sizes l.blocks l.entries)) (take l.index (numbers_in l.names));
  names : length l.names ≡ length l.fn.names;
  kept : OnlySlides l.fn.heap l.heap;
}
