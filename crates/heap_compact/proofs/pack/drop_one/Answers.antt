-- The chunk is slid down, and its second word, its slot and the room's header are written.
use Rattle.heap_compact.proofs.Laws.{◌-◌, ◌∙◌, refl, arith, slot_still_within, IsDroppable, same_bytes, same_lents, ◌+◌, ◌≡◌, DropFacts, drop_facts, drop_table, all_dropped, dropped_within, dropped_holds, same_slid, within_misses}
use Rattle.heap_compact.proofs.pack.drop_one.Goals.{Start}
use Rattle.heap_compact.proofs.pack.drop_one.Goals as goal

facts : (c : Start) (d : IsDroppable c.args.region.now.bytes c.args.at c.args.room c.args.size c.args.slot) → DropFacts d (c.args.at - c.args.room)
facts c d = drop_facts _ c.requires.heap.accepted d refl

pub slide_down-requires : goal.slide_down-requires
slide_down-requires c =
    let f = facts (goal.at.slide_down-requires c).Start c.requires.drops in
    let many : c.args.room + c.args.size ≡ c.args.at - (c.args.at - c.args.room) + c.args.size = omega (arith, f.at_is) in
    record { down = omega arith; within = rw many at (dropped_within c.requires.heap c.requires.drops) }

pub put_slot-requires : goal.put_slot-requires
put_slot-requires c =
    let f = facts (goal.at.put_slot-requires c).Start c.requires.drops in
    let w = dropped_within c.requires.heap c.requires.drops in let len = c.slide_down.ensures.len in
    record {
      inside = record { inside = omega (arith, f.inside, len); misses = within_misses _ 8 w c.slide_down.ensures.lent (omega arith) (omega (arith, f.is_free.header_fits)) };
      small = omega (arith, f.middle.most, len);
      slot = omega (arith, f.facts.inside, f.middle.most);
      even = omega (arith, f.facts.whole, f.middle.start_whole);
    }

pub overflow_add-to : goal.overflow_add-to
overflow_add-to c =
    let f = facts (goal.at.overflow_add-to c).Start c.requires.drops in
    omega (arith, f.inside, f.middle.most, c.requires.drops.takes)

pub write-requires : goal.write-requires
write-requires c =
    let f = facts (goal.at.write-requires c).Start c.requires.drops in
    let w = dropped_within c.requires.heap c.requires.drops in
    let len = c.put_slot.ensures.len ∙ c.slide_down.ensures.len in record {
      inside = omega (arith, f.inside, c.requires.drops.takes, len);
      misses = within_misses _ 8 w (same_lents c.put_slot.ensures.after ∙ c.slide_down.ensures.lent)
          (omega arith) (omega (arith, f.is_free.header_fits));
      small = omega (arith, f.middle.most, len);
      writable = (f.is_free.header_fits, f.is_free.whole, omega (arith, f.inside, f.middle.most));
    }

pub set-requires : goal.set-requires
set-requires c =
    let f = facts (goal.at.set-requires c).Start c.requires.drops in
    let t = drop_table f c.slide_down.ensures.bytes (same_bytes c.put_slot.ensures.after) (same_bytes c.write.ensures.after) in
    let same = same_lents c.write.ensures.after ∙ same_lents c.put_slot.ensures.after ∙ c.slide_down.ensures.lent in
    record { slot = t.1; within = slot_still_within c.args.region.now c.write.new.region _ c.requires.heap.accepted c.requires.heap.lent f.own same t.0 t.1 }

pub returns : goal.returns
returns c =
    let down = all_dropped c.requires.heap.accepted c.slide_down.ensures.bytes (same_bytes c.put_slot.ensures.after) (same_bytes c.write.ensures.after) c.put_slot.ensures.reslotted c.write.ensures.spelled (same_bytes c.set.ensures.after) in
    let same = same_lents c.set.ensures.after ∙ same_lents c.write.ensures.after
    ∙ same_lents c.put_slot.ensures.after ∙ c.slide_down.ensures.lent in
    record {
      dropped = down.0;
      keeps = down.1 c.requires.drops;
      out = same;
      slid = same_slid c.set.ensures.after ∙ same_slid c.write.ensures.after ∙ same_slid c.put_slot.ensures.after ∙ c.slide_down.ensures.slid;
      heap = dropped_holds c.requires.heap same c.requires.drops down.0;
    }
