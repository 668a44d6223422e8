-- `take_slot` returns whether the slot is marked and holds this place, by the laws of laws_heap.
use Rattle.heap_check.proofs.Words.{◌*◌, ◌/◌, refl, sym, ◌∙◌, arith, false≢true, chunks_of, slot_facts}
use Rattle.heap_check.proofs.chained.take_slot.Goals.{then-slot-ne0-via-then-slot-ne0, then-slot-ne0-via-else-slot-ne0+then-slot-len, then-slot-ne0-via-else-slot-ne0+else-slot-len+then-not-has}
use Rattle.heap_check.proofs.chained.take_slot.Goals as goal

pub returns-then-slot-ne0-clause-held : goal.returns-then-slot-ne0-clause-held
returns-then-slot-ne0-clause-held c = (
  λ yes. absurd (false≢true yes),
  λ h. absurd (elim c.then-slot-ne0.branch [
    | then-slot-ne0-via-then-slot-ne0 w ↦ let whole = h.0 in let apart = w.if-slot-ne0.true in
        omega arith
    | then-slot-ne0-via-else-slot-ne0+then-slot-len w ↦
        let whole = h.0 in
        let len = w.len.ensures in
        let beyond = w.if-slot-len.true in
        let inside = (slot_facts c.args.region.now.bytes (chunks_of c.args.region.now.bytes)
        (4 * (c.args.slot / 4)) c.requires.tiles (c.requires.slots (c.args.slot / 4) h.1)).inside in
        omega arith
    | then-slot-ne0-via-else-slot-ne0+else-slot-len+then-not-has w ↦
        false≢true (w.if-not-has.ensures.1 h.1)
  ]),
)

pub returns-clause-held : goal.returns-clause-held
returns-clause-held c = (
  λ yes. (
    c.if-slot-ne0.false,
    c.if-not-has.ensures.0 refl,
    sym c.get_u32.ensures ∙ c.if-get_u32-place.false,
  ),
  λ h. c.take.ensures.was.1 h.1,
)
