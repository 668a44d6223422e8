-- A header and zeros make the free chunk a movable one, and the empty slot gets its place.
use Rattle.heap_place.proofs.Laws.{◌∙◌, ap, inl, refl, arith, rules, IsFreeChunk, need, slot_facts, length-replicate, slot_still_within, same_bytes, same_lents, cut_facts, claimed_table, claimed_write, words_within, body_still, filled_holds}
use Rattle.heap_place.proofs.claim.claim_movable.Goals as goal

pub write-requires : goal.write-requires
write-requires c =
    let f = cut_facts c.requires.heap.accepted c.requires.free in
    let s = slot_facts _ _ _ c.requires.heap.accepted.1.tiles c.requires.slot in
    record { inside = f.0; misses = (words_within c.requires.heap c.requires.free).misses; small = omega arith; writable = (omega arith, omega arith, omega arith, inl refl, omega arith, omega arith) }

pub fill-requires : goal.fill-requires
fill-requires c = body_still _ c.requires.heap c.requires.free (same_lents c.write.ensures.after) c.write.ensures.len

pub set-requires : goal.set-requires
set-requires c =
    let r = c.requires in
    let t = claimed_table c.args.count c.args.owner r.heap.accepted r.free r.slot
    (same_bytes c.write.ensures.after) (same_bytes c.fill.ensures.after) in
    record { slot = t.1; within = slot_still_within c.args.region.now c.fill.new.self _ r.heap.accepted r.heap.lent r.slot (same_lents c.fill.ensures.after ∙ same_lents c.write.ensures.after) t.0 t.1 }

pub returns : goal.returns
returns c =
    let r = c.requires in
    let done = λ (f : IsFreeChunk c.args.region.now.bytes c.args.at (need c.args.count)). claimed_write c.args.count c.args.owner r.heap.accepted f r.slot r.empty (same_bytes c.write.ensures.after) c.write.ensures.spelled (same_bytes c.fill.ensures.after) (same_bytes c.set.ensures.after) in
    record {
      made = λ f. (done f).0;
      keeps = (done r.free).1;
      plain = (done r.free).2;
      rest = search rules;
      heap = filled_holds r.heap (same_lents c.set.ensures.after ∙ same_lents c.fill.ensures.after ∙ same_lents c.write.ensures.after) r.free (λ f. (done f).0) (ap need (length-replicate c.args.count 0));
    }
