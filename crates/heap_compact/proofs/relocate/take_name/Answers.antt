-- The header of a movable chunk replaces the fixed one's, and the empty slot gets its place.
use Rattle.heap_compact.proofs.Laws.{inl, refl, arith, rules, ◌∙◌, found_inside, slot_still_within, one_within, one_altered_lends, name_size, same_bytes, same_lents, named_there, named_writable, header_table}
use Rattle.heap_compact.proofs.relocate.take_name.Goals as goal

pub write-requires : goal.write-requires
write-requires c =
    let w = named_writable c.args.there c.requires.heap.accepted c.requires.found c.requires.slot in
    record {
      inside = found_inside _ c.args.there c.requires.heap.accepted c.requires.found;
      misses = (one_within c.args.region.now c.args.there c.requires.heap.accepted c.requires.heap.lent c.requires.found).misses;
      small = omega (arith, c.requires.heap.accepted.1.tiles.head.most);
      writable = (w.0, omega arith, c.requires.owner, inl refl, w.1, w.2);
    }

pub set-requires : goal.set-requires
set-requires c =
    let t = header_table c.args.there c.args.owner c.requires.heap.accepted c.requires.found c.requires.slot (same_bytes c.write.ensures.after) in
    record { slot = t.1; within = slot_still_within c.args.region.now c.write.new.region _ c.requires.heap.accepted c.requires.heap.lent c.requires.slot (same_lents c.write.ensures.after) t.0 t.1 }

pub returns : goal.returns
returns c =
    let n = named_there c.args.there c.requires.heap.accepted c.requires.found c.requires.fixed c.requires.slot c.requires.empty (same_bytes c.write.ensures.after) c.write.ensures.spelled (same_bytes c.set.ensures.after) in
    let same = same_lents c.set.ensures.after ∙ same_lents c.write.ensures.after in record {
      made = n.0;
      keeps = n.2;
      plain = n.1;
      rest = search rules;
      heap = record {
        accepted = n.0.frame.accepted;
        lent = one_altered_lends c.args.region.now c.set.new.region c.args.there _ c.requires.heap.accepted c.requires.heap.lent same c.requires.found n.0 (name_size c.args.owner c.args.slot.0 c.requires.found.chunk) c.requires.other;
      };
    }
