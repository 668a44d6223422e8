-- All chunks are a run, so packing that run packs the heap.
use Rattle.heap_compact.proofs.Laws.{sym, ◌∙◌, packed_moved, exactly_becomes, run_whole, compacted}
use Rattle.heap_compact.proofs.pack.compact.Goals as goal

pub pack-requires-clause-run : goal.pack-requires-clause-run
pack-requires-clause-run c = run_whole c.requires.heap.accepted c.area_start-start.ensures c.len-end.ensures

pub returns : goal.returns
returns c =
    let p = c.pack.ensures in
    let whole = compacted c.requires.heap.accepted c.area_start-start.ensures c.len-end.ensures p.packed in
    record {
      lists = p.lists;
      packed = exactly_becomes whole;
      exact = whole.exact;
      moved = p.moved (run_whole c.requires.heap.accepted c.area_start-start.ensures c.len-end.ensures) ∙ sym (packed_moved _ _ (exactly_becomes whole));
      plain = whole.plain;
      out = p.out;
      slid = p.slid;
      heap = p.heap;
    }
