use Rattle.std.proofs.Common.{◌-◌, ◌/◌, arith, inl, inr}
use Rattle.laws_heap.proofs.OneTable.{one_stands, one_number, none_outside}
use Rattle.laws_heap.proofs.Slots.{slot_stands}
use Rattle.master_table.proofs.slots.OneTable.number.Goals.{then-slot-lt-FRAME_SIZE-via-then-slot-lt-FRAME_SIZE, then-slot-lt-FRAME_SIZE-via-else-slot-lt-FRAME_SIZE+then-slot-count}
use Rattle.master_table.proofs.slots.OneTable.number.Goals as goal

pub returns-then-slot-lt-FRAME_SIZE-clause-none : goal.returns-then-slot-lt-FRAME_SIZE-clause-none
returns-then-slot-lt-FRAME_SIZE-clause-none c = λ image is. none_outside image c.args.slot is.0 (elim c.then-slot-lt-FRAME_SIZE.branch [
  | then-slot-lt-FRAME_SIZE-via-then-slot-lt-FRAME_SIZE w ↦ inl w.if-slot-lt-FRAME_SIZE.true
  | then-slot-lt-FRAME_SIZE-via-else-slot-lt-FRAME_SIZE+then-slot-count w ↦ (let count = w.count.ensures in let high = w.if-slot-count.true in let same = is.1 in inr (omega arith))
])

pub returns-clause-some : goal.returns-clause-some
returns-clause-some c = λ image is. let same = is.1 in one_stands image c.args.slot ((c.args.slot - 16) / 4) is.0 (omega arith) (omega arith)

pub returns-then-slot-ne0-clause-none : goal.returns-then-slot-ne0-clause-none
returns-then-slot-ne0-clause-none c = λ image is s.
    let k = slot_stands image c.args.slot s in
    let there = one_number image c.args.slot k.0 is.0 k.1 in
    absurd (c.if-slot-ne0.true (omega arith))
