-- The header of a free chunk replaces the chunk's, and its slot is emptied.
use Rattle.heap_place.proofs.Laws.{◌∙◌, arith, rules, IsOne, same_bytes, same_lents, found_inside, given_size, own_slot_within, emptied_loose, emptied_locked, gave_back, one_within, freed_holds}
use Rattle.heap_place.proofs.release.release.Goals as goal

pub size_of_body-size-requires : goal.size_of_body-size-requires
size_of_body-size-requires c = let inside = found_inside _ _ c.requires.heap.accepted c.requires.found in omega arith

pub write-requires : goal.write-requires
write-requires c =
    let s = given_size c.requires.heap.accepted c.requires.found c.size_of_body-size.ensures in
    let misses = (one_within c.args.region.now _ c.requires.heap.accepted c.requires.heap.lent c.requires.found).misses in
    record { inside = s.1; misses = misses; small = omega arith; writable = (omega arith, s.2, omega arith) }

pub clear-requires : goal.clear-requires
clear-requires c =
    let t = own_slot_within c.write.new.region c.size_of_body-size.result c.requires.heap c.requires.found c.if-found-ne-FIXED_LOCK.true (same_lents c.write.ensures.after) (same_bytes c.write.ensures.after) in
    record { within = t.0; slot = t.1 }

pub returns-then-found-ne-FIXED_LOCK : goal.returns-then-found-ne-FIXED_LOCK
returns-then-found-ne-FIXED_LOCK c =
    let r = c.requires in
    let done = λ (f : IsOne c.args.region.now.bytes c.args.found). gave_back c.clear.new.region.bytes r.heap.accepted f r.no_directory c.size_of_body-size.ensures (same_bytes c.write.ensures.after) c.write.ensures.spelled
    (emptied_loose _ f c.if-found-ne-FIXED_LOCK.true (same_bytes c.clear.ensures.after)) in
    let gone = done r.found in
    record { gone = gone.0; chunk = gone.1; exact = λ f. (done f).4; keeps = gone.2; plain = gone.3; rest = search rules; heap = freed_holds r.heap (same_lents c.clear.ensures.after ∙ same_lents c.write.ensures.after) r.found gone.0 r.other }

pub returns-else-found-ne-FIXED_LOCK : goal.returns-else-found-ne-FIXED_LOCK
returns-else-found-ne-FIXED_LOCK c =
    let r = c.requires in
    let done = λ (f : IsOne c.args.region.now.bytes c.args.found). gave_back c.write.new.region.bytes r.heap.accepted f r.no_directory c.size_of_body-size.ensures (same_bytes c.write.ensures.after) c.write.ensures.spelled
    (emptied_locked c.write.new.region.bytes r.heap.accepted f c.if-found-ne-FIXED_LOCK.false) in
    let gone = done r.found in
    record { gone = gone.0; chunk = gone.1; exact = λ f. (done f).4; keeps = gone.2; plain = gone.3; rest = search rules; heap = freed_holds r.heap (same_lents c.write.ensures.after) r.found gone.0 r.other }
