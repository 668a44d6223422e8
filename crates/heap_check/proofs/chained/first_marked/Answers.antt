-- `first_marked` returns the first marked slot of a row, by the laws of SlotLaws and ChainedLaws.
use Rattle.heap_check.proofs.Laws.{arith, refl, false≢true, chunks_of, HoldsBody, stands_slot, slot_facts, row_small, first_of_number, held_more, marked_bare}
use Rattle.heap_check.proofs.chained.first_marked.Goals as goal

pub end-end-requires : goal.end-end-requires
end-end-requires c = row_small c.args.region.now.bytes c.args.row
    (chunks_of c.args.region.now.bytes, c.requires.tiles) c.requires.row

pub has-requires : goal.has-requires
has-requires c =
    let inside = (slot_facts c.args.region.now.bytes (chunks_of c.args.region.now.bytes)
    c.slot-slot.result c.requires.tiles (stands_slot c.args.region.now.bytes c.slot-slot.result
    c.loop-number.number c.slot-slot.ensures)).inside in
    let most = c.requires.tiles.head.most in
    let room = c.requires.room in
    omega arith

pub returns-then-has-clause-some : goal.returns-then-has-clause-some
returns-then-has-clause-some c =
    first_of_number (HoldsBody c.args.region.now.bytes (chunks_of c.args.region.now.bytes))
    c.args.region.now.bytes c.slot-slot.result c.loop-number.number c.slot-slot.ensures
    c.loop-number.invariant (marked_bare c.args.region.now.bytes
    (chunks_of c.args.region.now.bytes) c.slot-slot.result c.loop-number.number c.args.marks.now
    c.requires.tiles c.slot-slot.ensures c.requires.left (c.if-has.ensures.0 refl))

pub loop-number-preserved : goal.loop-number-preserved
loop-number-preserved c = held_more c.args.region.now.bytes (chunks_of c.args.region.now.bytes)
    c.slot-slot.result c.loop-number.number c.args.marks.now c.requires.tiles c.slot-slot.ensures
    c.requires.left (λ has. false≢true (c.if-has.ensures.1 has)) c.loop-number.invariant
