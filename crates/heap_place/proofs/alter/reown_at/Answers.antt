-- Another owner is written into the second word, so the chunk has it, and nothing else changes.
use Rattle.heap_place.proofs.Laws.{rules, same_bytes, same_lents, reowned_there, keeps_second, one_within, reowned_holds}
use Rattle.heap_place.proofs.alter.reown_at.Goals as goal

pub put_owner-requires-clause-inside : goal.put_owner-requires-clause-inside
put_owner-requires-clause-inside c = one_within _ _ c.requires.heap.accepted c.requires.heap.lent c.requires.found

pub returns : goal.returns
returns c =
    let r = c.requires in let is = same_bytes c.put_owner.ensures.after in
    let done = reowned_there _ r.heap.accepted r.found r.owner c.put_owner.ensures.reowned is in
    record {
      made = done.0;
      keeps = keeps_second _ r.heap.accepted done.0.frame.accepted r.found is;
      plain = done.1;
      rest = search rules;
      heap = reowned_holds c.args.owner r.heap (same_lents c.put_owner.ensures.after) r.found done.0 r.owner.locked;
    }
