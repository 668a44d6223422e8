-- `find_unmarked` returns the first slot in use without a mark, by the laws of SlotLaws.
use Rattle.heap_check.proofs.Laws.{refl, arith, List, ℕ, map, subst, false≢true, EveryOne, every_first-more, first_slots-all, one_total, IsMarked, first_of_number}
use Rattle.heap_check.proofs.slots.find_unmarked.Goals as goal

pub is_marked-requires-clause-stands : goal.is_marked-requires-clause-stands
is_marked-requires-clause-stands g c = c.slot-slot.ensures c.args.region.now.bytes c.requires.table

pub is_marked-requires-clause-plain : goal.is_marked-requires-clause-plain
is_marked-requires-clause-plain g c = c.requires.table.0

pub returns-then-not-is_marked-clause-some : goal.returns-then-not-is_marked-clause-some
returns-then-not-is_marked-clause-some g c =
    first_of_number (IsMarked c.args.region.now.bytes (map g.M.Mark.says c.args.marks.now))
    c.args.region.now.bytes c.slot-slot.result c.loop-number.number
    (c.slot-slot.ensures c.args.region.now.bytes c.requires.table) c.loop-number.invariant
    (λ marked. false≢true (c.if-not-is_marked.ensures.1 marked))

pub loop-number-preserved : goal.loop-number-preserved
loop-number-preserved g c =
    every_first-more (IsMarked c.args.region.now.bytes (map g.M.Mark.says c.args.marks.now))
    c.args.region.now.bytes c.slot-slot.result c.loop-number.number
    (c.slot-slot.ensures c.args.region.now.bytes c.requires.table) c.loop-number.invariant
    (c.if-not-is_marked.ensures.0 refl)

pub returns-clause-none : goal.returns-clause-none
returns-clause-none g c = subst (λ (xs : List ℕ).
    EveryOne (IsMarked c.args.region.now.bytes (map g.M.Mark.says c.args.marks.now)) xs)
    (first_slots-all c.args.region.now.bytes c.loop-number.number (let table = c.requires.table.1 in
    omega (arith, table, one_total c.args.region.now.bytes c.requires.table.0)))
    c.loop-number.invariant
