-- A chunk is made in room for it, perhaps after one stretch has slid.
use Rattle.mem_manager.proofs.Laws.{◌≡◌, Some, None, sym, ◌∙◌, inl, inr, ◌+◌, EmptySlot, held, ChangesName, IsNextEmpty, MakesNew, new_left, new_claimed, new_lowers, new_unheld, used_made, as_next, as_start, start_made, zeros, nothing_slides, once_then, first_slid, made_moves_nothing, nothing_then, one_stretch_then, itself_one}
use Rattle.mem_manager.proofs.heap.making.make_movable.Goals as goal

-- the slot that was found
first : (c : goal.After-claim)
    → IsNextEmpty c.args.space.now.bytes c.in_ok-slot.slot.name.0 c.in_ok-slot.slot.before
first c =
    as_next c.args.space.now.bytes c.in_ok-slot.slot c.in_ok-slot.ensures.ok_part c.requires.some

-- its name stood for nothing once one stretch had slid
empty : (c : goal.After-claim) → held c.room_for.new.space.bytes c.in_ok-slot.slot.name.0 ≡ None
empty c = new_unheld c.holds.ensures.accepted c.room_for.ensures.slides (first c)

-- and it has a chunk of zeros now
claimed : (c : goal.After-claim) → ChangesName c.room_for.new.space.bytes c.claim.new.self.bytes c.in_ok-slot.slot.name.0 (Some (zeros c.args.size 0 c.args.owner)) (Some (c.in_ok-room.room.at + 8))
claimed c =
    let r = c.in_ok-room.ensures in
    new_claimed c.claim.new.self.bytes c.args.size c.args.owner c.holds.ensures.accepted
    c.room_for.ensures.slides (first c) r.room r.enough c.claim.ensures.made

made : (c : goal.After-claim) → MakesNew c.args.space.now.bytes c.claim.new.self.bytes c.in_ok-slot.slot.name.0 c.args.size c.args.owner
made c =
    let slides = c.room_for.ensures.slides in
    new_left c.args.size c.args.owner c.holds.ensures.accepted (empty c) slides (claimed c)

pub returns-in_err-slot-clause-one_stretch : goal.returns-in_err-slot-clause-one_stretch
returns-in_err-slot-clause-one_stretch c = itself_one c.args.space.now.bytes

pub returns-in_err-slot-clause-once : goal.returns-in_err-slot-clause-once
returns-in_err-slot-clause-once c = nothing_slides c.holds.ensures

pub claim-requires-clause-slot : goal.claim-requires-clause-slot
claim-requires-clause-slot c =
    let ok_part = c.in_ok-slot.ensures.ok_part in
    (first_slid c.holds.ensures.accepted c.room_for.ensures.slides
    (as_next c.args.space.now.bytes c.in_ok-slot.slot ok_part c.requires.some)).is_slot

pub claim-requires-clause-empty : goal.claim-requires-clause-empty
claim-requires-clause-empty c =
    let ok_part = c.in_ok-slot.ensures.ok_part in
    (first_slid c.holds.ensures.accepted c.room_for.ensures.slides
    (as_next c.args.space.now.bytes c.in_ok-slot.slot ok_part c.requires.some)).empty

pub returns-clause-made : goal.returns-clause-made
returns-clause-made c = made c

pub returns-clause-in_use : goal.returns-clause-in_use
returns-clause-in_use c =
    used_made (first_slid c.holds.ensures.accepted c.room_for.ensures.slides (first c)) (claimed c)

pub returns-clause-had_room : goal.returns-clause-had_room
returns-clause-had_room c short =
    elim short [
      | inl none ↦ some_slot c.in_ok-slot.slot
          (sym c.in_ok-slot.ensures.ok_part ∙ c.requires.none.1 none)
      | inr none ↦ c.in_ok-room.ensures.not_short none
    ] where
      some_slot : (s : EmptySlot) → Some s ≡ None → ⊥
      some_slot s e = absurd cc

pub returns-clause-unmoved : goal.returns-clause-unmoved
returns-clause-unmoved c run =
    let self = c.claim.new.self in
    nothing_then self (c.room_for.ensures.unmoved run) (made_moves_nothing (empty c) (claimed c))

pub returns-clause-one_stretch : goal.returns-clause-one_stretch
returns-clause-one_stretch c =
    one_stretch_then c.claim.new.self.bytes c.holds.ensures.accepted c.room_for.ensures.slides
    (made_moves_nothing (empty c) (claimed c))

pub returns-clause-lowers : goal.returns-clause-lowers
returns-clause-lowers c =
    let r = c.in_ok-room.ensures in
    new_lowers c.claim.new.self.bytes c.args.size c.args.owner c.holds.ensures.accepted
    c.room_for.ensures.slides (first c) r.room r.enough c.claim.ensures.made

pub returns-clause-once : goal.returns-clause-once
returns-clause-once c =
    once_then c.room_for.new.space c.claim.new.self c.holds.ensures c.room_for.ensures.slides
    (empty c) (claimed c) c.claim.ensures.rest c.room_for.ensures.once

pub returns-clause-table : goal.returns-clause-table
returns-clause-table c =
    start_made c.in_ok-slot.slot.table (as_start c.args.space.now.bytes c.in_ok-slot.slot c.in_ok-slot.ensures.ok_part c.requires.table) (made c)
