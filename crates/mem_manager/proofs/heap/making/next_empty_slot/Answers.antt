-- If a slot is empty, some slot is free.
use Rattle.mem_manager.proofs.Laws.{◌≡◌, Some, None, sym, ◌∙◌, arith, u32_at, slot_stands, EmptySlot, some_free}
use Rattle.mem_manager.proofs.heap.making.next_empty_slot.Goals as goal

some_slot : (s : EmptySlot) → Some s ≡ None → ⊥
some_slot s e = absurd cc

pub returns-then-word_of-eq0-clause-none : goal.returns-then-word_of-eq0-clause-none
returns-then-word_of-eq0-clause-none c =
    let image = c.args.region.now.bytes in
    let true = c.if-word_of-eq0.true in (
      λ e. absurd (some_slot _ e),
      λ none.
          let some = c.if-freed-ne0.true in
          let k = slot_stands image c.args.freed.0 (c.requires.freed (omega (arith, some))) in
          let empty : u32_at image c.args.freed.0 ≡ 0 = sym c.word_of.ensures ∙ true in
          absurd (some_free image c.args.freed.0 k.0 k.1 empty none),
    )
