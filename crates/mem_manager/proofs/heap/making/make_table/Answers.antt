-- A table is put in room for it, or the first check refuses.
use Rattle.mem_manager.proofs.Laws.{◌≡◌, true, sym, ap, ◌∙◌, inl, inr, refl, Memory, is_chained, Reply, false≢true, nothing_slides, itself_one, one_stretch_then, more_made, more_once, puts_move_nothing}
use Rattle.mem_manager.proofs.StepWords.{answers}
use Rattle.mem_manager.proofs.heap.making.make_table.Goals as goal

pub returns-then-not-is_chained-clause-one_stretch : goal.returns-then-not-is_chained-clause-one_stretch
returns-then-not-is_chained-clause-one_stretch c = itself_one c.args.space.now.bytes

pub returns-then-not-is_chained-clause-once : goal.returns-then-not-is_chained-clause-once
returns-then-not-is_chained-clause-once c = nothing_slides c.holds.ensures

pub returns-in_err-room-clause-does : goal.returns-in_err-room-clause-does
returns-in_err-room-clause-does c =
    rw c.in_err-room.ensures.refused
    (answers (λ done. Reply.Done) c.from_residual.result refl c.from_residual.ensures c.in_err-room.ensures.refusal c.holds.ensures.accepted (inl (inr c.in_err-room.ensures.short, refl)))

pub returns-clause-does : goal.returns-clause-does
returns-clause-does c =
    let table = c.claim_table.ensures in
    let chained : is_chained c.args.space.now.bytes ≡ true = ap (λ (m : Memory). is_chained m.bytes)
    (sym c.region.ensures.same) ∙ sym c.is_chained.ensures ∙ c.if-not-is_chained.false in
    more_made c.room_for.new.space c.claim_table.new.self c.holds.ensures
    (λ none. elim none [ inl plain ↦ false≢true (sym plain ∙ chained) | inr short ↦ c.in_ok-room.ensures.not_short short ])
    c.room_for.ensures.slides c.room_for.ensures.rest table.made table.rest

pub returns-clause-one_stretch : goal.returns-clause-one_stretch
returns-clause-one_stretch c =
    one_stretch_then c.claim_table.new.self.bytes c.holds.ensures.accepted c.room_for.ensures.slides
    (puts_move_nothing c.claim_table.ensures.made)

pub returns-clause-once : goal.returns-clause-once
returns-clause-once c = more_once c.args.space.now c.room_for.new.space c.claim_table.new.self
    c.claim_table.ensures.made c.claim_table.ensures.rest c.room_for.ensures.once
