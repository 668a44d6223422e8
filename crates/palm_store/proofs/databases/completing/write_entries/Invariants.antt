-- The entries that were passed are written after the header, and nothing else has changed.
use Rattle.palm_store.proofs.Laws.{◌≡◌, KeepsLoan, StandsAs, numbers_in, Writes}
use Rattle.palm_store.proofs.databases.completing.write_entries.Given as goal

abbrev pub invariant-loop-index : goal.invariant-loop-index
invariant-loop-index l = record {
  writes : Writes l.fn.heap.bytes l.heap.bytes l.slot.0 l.resources l.entries (numbers_in l.names) l.index;
  stands : StandsAs l.heap.bytes l.slot.0 l.chunk;
  loan : KeepsLoan l.fn.heap l.heap;
  rest : l.heap ≡ record l.fn.heap { bytes = l.heap.bytes };
}
