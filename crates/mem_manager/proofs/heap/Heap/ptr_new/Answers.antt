-- A fixed chunk is made where room was found, or the first check refuses.
use Rattle.mem_manager.proofs.Laws.{◌≡◌, ◌+◌, refl, ap, ◌∙◌, inl, inr, ℕ, Some, None, fixed_lock, held, Reply, ChangesName, ptr_made, ptr_claimed, ptr_unheld, managed_ptr, zeros, nothing_slides, once_then, made_moves_nothing, nothing_then, one_stretch_then, itself_one}
use Rattle.mem_manager.proofs.StepWords.{answers, answers_inside}
use Rattle.mem_manager.proofs.heap.Heap.ptr_new.Goals as goal

-- the name of the room stood for nothing once one stretch had slid
empty : (c : goal.After-remember)
    → held c.room_for.new.space.bytes (c.in_ok-room.room.at + 8) ≡ None
empty c =
    let room_is = c.in_ok-room.ensures in
    ptr_unheld c.args.size c.room_for.ensures.slides room_is.room room_is.enough

-- and it has a chunk of zeros now
claimed : (c : goal.After-remember) (name : ℕ) → name ≡ c.in_ok-room.room.at + 8 → ChangesName c.room_for.new.space.bytes c.claim_fixed-name.new.self.bytes name (Some (zeros c.args.size fixed_lock c.args.owner)) (Some (c.in_ok-room.room.at + 8))
claimed c name is =
    let r = c.in_ok-room.ensures in
    ptr_claimed c.claim_fixed-name.new.self.bytes c.args.size c.args.owner is c.in_ok-check_owner.ensures.ok c.room_for.ensures.slides r.room r.enough c.claim_fixed-name.ensures.made

pub returns-in_err-check_owner-clause-does : goal.returns-in_err-check_owner-clause-does
returns-in_err-check_owner-clause-does c =
    answers_inside (λ name. Reply.Named name) c.from_residual.result c.self.view_is
    c.from_residual.ensures c.in_err-check_owner.ensures.refusal c.self.invariant.heap.accepted
    (inl (c.in_err-check_owner.ensures.err, refl))

pub returns-in_err-check_owner-clause-one_stretch : goal.returns-in_err-check_owner-clause-one_stretch
returns-in_err-check_owner-clause-one_stretch c =
    rw (← c.self.view_is) (itself_one c.self.inside.space.bytes)

pub returns-in_err-check_owner-clause-once : goal.returns-in_err-check_owner-clause-once
returns-in_err-check_owner-clause-once c =
    rw (← c.self.view_is) (nothing_slides c.self.invariant.heap)

pub returns-in_err-room-clause-does : goal.returns-in_err-room-clause-does
returns-in_err-room-clause-does c =
    let e = c.from_residual-in_err-room in
    rw (c.in_err-room.ensures.refused ∙ c.self.view_is)
    (answers (λ name. Reply.Named name) e.result c.self.view_is e.ensures c.in_err-room.ensures.refusal c.self.invariant.heap.accepted (inr (c.in_ok-check_owner.ensures.ok, inl (c.in_err-room.ensures.short, refl))))

pub invariant_of-self-2 : goal.invariant_of-self-2
invariant_of-self-2 c =
    let name_is = c.claim_fixed-name.ensures in
    managed_ptr c.args.size c.self.invariant c.room_for.ensures.heap name_is.heap name_is.name
    c.remember.ensures c.in_ok-check_owner.ensures.ok
    c.room_for.ensures.slides c.in_ok-room.ensures.room c.in_ok-room.ensures.enough name_is.made

pub returns-clause-does : goal.returns-clause-does
returns-clause-does c =
    let n = c.claim_fixed-name.ensures in
    rw (← c.self.view_is)
    (ptr_made c.room_for.new.space c.claim_fixed-name.new.self c.args.size c.args.owner c.self.invariant.heap c.in_ok-check_owner.ensures.ok c.in_ok-room.ensures.not_short
    (ap (held c.room_for.new.space.bytes) n.name ∙ empty c) c.room_for.ensures.slides
    c.room_for.ensures.rest (claimed c c.claim_fixed-name.result.0 n.name) n.rest)

pub returns-clause-unmoved : goal.returns-clause-unmoved
returns-clause-unmoved c =
    rw (← c.self.view_is) (λ run. nothing_then c.claim_fixed-name.new.self (c.room_for.ensures.unmoved run) (made_moves_nothing (empty c) (claimed c _ refl)))

pub returns-clause-one_stretch : goal.returns-clause-one_stretch
returns-clause-one_stretch c =
    rw (← c.self.view_is)
    (one_stretch_then c.claim_fixed-name.new.self.bytes c.self.invariant.heap.accepted c.room_for.ensures.slides (made_moves_nothing (empty c) (claimed c _ refl)))

pub returns-clause-once : goal.returns-clause-once
returns-clause-once c =
    let r = c.room_for.ensures in
    rw (← c.self.view_is) (once_then c.room_for.new.space c.claim_fixed-name.new.self c.self.invariant.heap r.slides (empty c) (claimed c _ refl) c.claim_fixed-name.ensures.rest r.once)
