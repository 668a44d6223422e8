-- The loop of `mark_row` keeps its invariant: the slots before this number are marked if in use.
use Rattle.heap_check.proofs.Words.{MarksBefore, ◌≤◌, length}
use Rattle.heap_check.proofs.chained.mark_row.Given as goal

abbrev pub invariant-loop-number : goal.invariant-loop-number
invariant-loop-number l =
    record { marked : MarksBefore l.region.bytes l.number l.marks; room : 524288 ≤ length l.marks }
