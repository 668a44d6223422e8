-- `mark_row` marks the slots of a row that are in use, by the laws of ChainedLaws.
use Rattle.heap_check.proofs.Laws.{arith, tiled_table, whole_table, stands_slot, slot_facts, chunks_of, row_small, marks_more}
use Rattle.heap_check.proofs.chained.mark_row.Goals as goal

pub end-end-requires : goal.end-end-requires
end-end-requires c = row_small c.args.region.now.bytes c.args.row
    (chunks_of c.args.region.now.bytes, c.requires.tiles) c.requires.row

pub mark_slot-requires-clause-has_table : goal.mark_slot-requires-clause-has_table
mark_slot-requires-clause-has_table c = whole_table c.args.region.now c.requires.whole
    (tiled_table c.args.region.now.bytes (chunks_of c.args.region.now.bytes) c.requires.tiles)

pub mark_slot-requires-clause-slot : goal.mark_slot-requires-clause-slot
mark_slot-requires-clause-slot c =
    stands_slot c.args.region.now.bytes c.slot.result c.loop-number.number c.slot.ensures

pub mark_slot-requires-clause-room : goal.mark_slot-requires-clause-room
mark_slot-requires-clause-room c =
    let inside = (slot_facts c.args.region.now.bytes (chunks_of c.args.region.now.bytes)
    c.slot.result c.requires.tiles (stands_slot c.args.region.now.bytes c.slot.result
    c.loop-number.number c.slot.ensures)).inside in
    let most = c.requires.tiles.head.most in
    let room = c.loop-number.invariant.room in
    omega arith

pub loop-number-preserved : goal.loop-number-preserved
loop-number-preserved c =
    let room = c.loop-number.invariant.room in
    let len = c.mark_slot.ensures.len in
    record {
      marked = marks_more c.args.region.now.bytes (chunks_of c.args.region.now.bytes) c.slot.result
          c.loop-number.number c.loop-number.marks c.mark_slot.new.marks c.requires.tiles
          c.slot.ensures c.mark_slot.ensures.added c.loop-number.invariant.marked;
      room = omega arith;
    }
