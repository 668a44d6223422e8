-- The loop of `line_count` keeps its invariant: the lines so far are counted.
use Rattle.palmheap_c.proofs.Words.{◌≡◌, ◌≤◌, take, count_by, is_line_end}
use Rattle.palmheap_c.proofs.salvaging.line_count.Given as goal

abbrev pub invariant-loop-byte : goal.invariant-loop-byte
invariant-loop-byte l = record {
  same : l.count ≡ count_by is_line_end (take l.byte-index l.text);
  few : l.count ≤ l.byte-index;
}
