-- A chunk grows where it stands or elsewhere, or the first check refuses.
use Rattle.mem_manager.proofs.Laws.{◌≡◌, sym, subst, arith, Memory, need, ShortFor, MovesOneStretchAnd, Resized, nothing_alone, itself_alone, never_fits, growth_locked, growth_short, grown_passes, grown_leaves, grown_moves_nothing, moved_passes, other_not_lent}
use Rattle.mem_manager.proofs.heap.moving.resize_found.Goals as goal

pub returns-then-grow_in_place-clause-done : goal.returns-then-grow_in_place-clause-done
returns-then-grow_in_place-clause-done c =
    grown_leaves c.grow_in_place.new.self c.args.size c.holds.ensures c.requires.found c.grow_in_place.ensures.tells c.if-grow_in_place.true c.grow_in_place.ensures.made c.grow_in_place.ensures.rest

pub returns-then-grow_in_place-clause-could : goal.returns-then-grow_in_place-clause-could
returns-then-grow_in_place-clause-could c = grown_passes c.args.size c.holds.ensures c.requires.found (other_not_lent c.holds.ensures c.requires.found c.requires.other) c.requires.movable c.grow_in_place.ensures.tells c.if-grow_in_place.true

pub returns-then-grow_in_place-clause-unmoved : goal.returns-then-grow_in_place-clause-unmoved
returns-then-grow_in_place-clause-unmoved c fits =
    grown_moves_nothing c.grow_in_place.new.self.bytes c.args.size c.holds.ensures.accepted c.requires.found c.grow_in_place.ensures.tells c.if-grow_in_place.true c.grow_in_place.ensures.made

pub returns-then-grow_in_place-clause-one_stretch : goal.returns-then-grow_in_place-clause-one_stretch
returns-then-grow_in_place-clause-one_stretch c =
    nothing_alone c.args.space.now.bytes c.grow_in_place.new.self.bytes c.args.found.name.0
    (grown_moves_nothing c.grow_in_place.new.self.bytes c.args.size c.holds.ensures.accepted c.requires.found c.grow_in_place.ensures.tells c.if-grow_in_place.true c.grow_in_place.ensures.made)

pub returns-then-found-gt0-clause-why : goal.returns-then-found-gt0-clause-why
returns-then-found-gt0-clause-why c =
    growth_locked c.args.size c.holds.ensures c.requires.found (other_not_lent c.holds.ensures c.requires.found c.requires.other) c.requires.movable c.if-found-gt0.true c.grow_in_place.ensures.tells c.if-grow_in_place.false

pub returns-then-found-gt0-clause-one_stretch : goal.returns-then-found-gt0-clause-one_stretch
returns-then-found-gt0-clause-one_stretch c =
    subst (λ (m : Memory). MovesOneStretchAnd c.args.space.now.bytes m.bytes c.args.found.name.0) (sym c.if-grow_in_place.ensures.refused) (itself_alone c.args.space.now.bytes c.args.found.name.0)

pub resize_by_moving-requires-clause-found : goal.resize_by_moving-requires-clause-found
resize_by_moving-requires-clause-found c =
    let grown = c.if-grow_in_place.ensures in
    rw c.apart.ensures (rw (← grown.refused) at c.requires.found)

pub resize_by_moving-requires-clause-unlocked : goal.resize_by_moving-requires-clause-unlocked
resize_by_moving-requires-clause-unlocked c =
    let low = c.if-found-gt0.false in rw c.apart.ensures (omega arith)

pub returns-then-not-resize_by_moving-clause-why : goal.returns-then-not-resize_by_moving-clause-why
returns-then-not-resize_by_moving-clause-why c =
    let none : c.args.found.lock ≡ 0 = let low = c.if-found-gt0.false in omega arith in
    growth_short c.args.size c.holds.ensures c.requires.found (other_not_lent c.holds.ensures c.requires.found c.requires.other) c.requires.movable none c.grow_in_place.ensures.tells c.if-grow_in_place.false
    (subst (λ (m : Memory). ShortFor m.bytes c.args.found.name.0 (need c.args.size)) c.if-grow_in_place.ensures.refused
    (rw c.apart.ensures at c.if-not-resize_by_moving.ensures.short))

pub returns-then-not-resize_by_moving-clause-one_stretch : goal.returns-then-not-resize_by_moving-clause-one_stretch
returns-then-not-resize_by_moving-clause-one_stretch c =
    subst (λ (m : Memory). MovesOneStretchAnd m.bytes c.resize_by_moving.new.space.bytes c.args.found.name.0) c.if-grow_in_place.ensures.refused
    (rw c.apart.ensures at c.resize_by_moving.ensures.one_stretch)

pub returns-clause-done : goal.returns-clause-done
returns-clause-done c = subst (λ (m : Memory). Resized m.bytes c.resize_by_moving.new.space.bytes c.args.found.name.0 c.args.size) c.if-grow_in_place.ensures.refused
    (rw c.apart.ensures at c.if-not-resize_by_moving.ensures.resized)

pub returns-clause-could : goal.returns-clause-could
returns-clause-could c =
    let none : c.args.found.lock ≡ 0 = let low = c.if-found-gt0.false in omega arith in
    moved_passes c.args.size c.holds.ensures c.requires.found
    (other_not_lent c.holds.ensures c.requires.found c.requires.other) none
    (λ short. c.if-not-resize_by_moving.ensures.not_short (rw c.apart.ensures (rw (← c.if-grow_in_place.ensures.refused) at short)))

pub returns-clause-unmoved : goal.returns-clause-unmoved
returns-clause-unmoved c fits = absurd (never_fits (need c.args.size) c.holds.ensures.accepted c.requires.found c.requires.movable c.grow_in_place.ensures.tells c.if-grow_in_place.false fits)

pub returns-clause-one_stretch : goal.returns-clause-one_stretch
returns-clause-one_stretch c = subst (λ (m : Memory). MovesOneStretchAnd m.bytes c.resize_by_moving.new.space.bytes c.args.found.name.0) c.if-grow_in_place.ensures.refused
    (rw c.apart.ensures at c.resize_by_moving.ensures.one_stretch)
