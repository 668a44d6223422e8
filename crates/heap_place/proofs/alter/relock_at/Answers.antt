-- Another lock is written into the second word, so the chunk has it, and nothing else changes.
use Rattle.heap_place.proofs.Laws.{rules, same_bytes, same_lents, relocked_there, keeps_second, one_within, relocked_holds}
use Rattle.heap_place.proofs.alter.relock_at.Goals as goal

pub put_lock-requires-clause-inside : goal.put_lock-requires-clause-inside
put_lock-requires-clause-inside c = one_within _ _ c.requires.heap.accepted c.requires.heap.lent c.requires.found

pub returns : goal.returns
returns c =
    let r = c.requires in let is = same_bytes c.put_lock.ensures.after in
    let done = relocked_there _ r.heap.accepted r.found r.movable r.owned c.put_lock.ensures.relocked is in
    record {
      made = done.0;
      keeps = keeps_second _ r.heap.accepted done.0.frame.accepted r.found is;
      plain = done.1;
      rest = search rules;
      heap = relocked_holds _ r.heap (same_lents c.put_lock.ensures.after) r.found done.0 r.stays;
    }
