-- The chunk grows in its own stretch, moves to another that was packed, or no stretch has the room.
use Rattle.heap_compact.proofs.Laws.{◌≡◌, ℕ, sym, subst, arith, Short, MovesOneStretchAnd, need, short_for_beyond, room_spot, spot_is_run, itself_alone, is_loose, loose_slid, slid_then, slid_alone, fits_in_stretch, fits_not_short, short_own, own_fits, room_fits}
use Rattle.heap_compact.proofs.growing.resize_by_packing.Goals as goal

pub returns-in-None-clause-short : goal.returns-in-None-clause-short
returns-in-None-clause-short c = let big = c.in-None.ensures in short_for_beyond _ _ _ c.holds.ensures.accepted (omega arith)

pub size_of_body-requires : goal.size_of_body-requires
size_of_body-requires c = let fits = own_fits _ c.holds.ensures.accepted c.requires.found in omega arith

pub overflow_add-size_of_body : goal.overflow_add-size_of_body
overflow_add-size_of_body c =
    let fits = own_fits c.args.found c.holds.ensures.accepted c.requires.found in
    let own = c.size_of_body.ensures in
    let room = room_fits c.args.found c.holds.ensures.accepted c.stretch_around-stretch.ensures.around c.room_of.ensures in
    omega arith

pub grow_in_stretch-requires-clause-fits : goal.grow_in_stretch-requires-clause-fits
grow_in_stretch-requires-clause-fits c =
    fits_in_stretch _ _ c.stretch_around-stretch.ensures.around c.room_of.ensures (omega arith)

pub returns-then-size_of_body-room_of-clause-not_short : goal.returns-then-size_of_body-room_of-clause-not_short
returns-then-size_of_body-room_of-clause-not_short c =
    fits_not_short c.holds.ensures.accepted
    (fits_in_stretch c.args.found (need c.args.count) c.stretch_around-stretch.ensures.around c.room_of.ensures (omega arith))

pub relocate_named-requires-clause-loose : goal.relocate_named-requires-clause-loose
relocate_named-requires-clause-loose c =
    loose_slid c.holds.ensures.accepted c.in-Some-room_by_packing.ensures.slides
    (is_loose _ c.holds.ensures.accepted c.requires.found c.requires.unlocked)

pub returns-in-Some-room_by_packing-clause-resized : goal.returns-in-Some-room_by_packing-clause-resized
returns-in-Some-room_by_packing-clause-resized c =
    slid_then _ _ _ c.holds.ensures.accepted c.in-Some-room_by_packing.ensures.slides c.relocate_named.ensures.resized

pub returns-in-Some-room_by_packing-clause-not_short : goal.returns-in-Some-room_by_packing-clause-not_short
returns-in-Some-room_by_packing-clause-not_short c short =
    let same : c.in-Some.size ≡ need c.args.count = c.in-Some.ensures.1 in
    c.in-Some-room_by_packing.ensures.not_short
    (rw (← same) at ((short_own c.args.found (need c.args.count) c.holds.ensures.accepted c.stretch_around-stretch.ensures.around c.room_of.ensures (omega arith)).0 short))

pub returns-in-None-room_by_packing-clause-short : goal.returns-in-None-room_by_packing-clause-short
returns-in-None-room_by_packing-clause-short c =
    let same : c.in-Some.size ≡ need c.args.count = c.in-Some.ensures.1 in
    (short_own c.args.found (need c.args.count) c.holds.ensures.accepted c.stretch_around-stretch.ensures.around c.room_of.ensures (omega arith)).1
    (subst (λ (n : ℕ). Short c.args.space.now.bytes n) same c.in-None-room_by_packing.ensures.short)

pub returns-in-None-clause-one_stretch : goal.returns-in-None-clause-one_stretch
returns-in-None-clause-one_stretch c = itself_alone c.args.space.now.bytes c.args.found.name.0

pub returns-in-Some-room_by_packing-clause-one_stretch : goal.returns-in-Some-room_by_packing-clause-one_stretch
returns-in-Some-room_by_packing-clause-one_stretch c =
    slid_alone _ _ c.holds.ensures.accepted c.in-Some-room_by_packing.ensures.slides c.relocate_named.ensures.alone

pub returns-in-None-room_by_packing-clause-one_stretch : goal.returns-in-None-room_by_packing-clause-one_stretch
returns-in-None-room_by_packing-clause-one_stretch c =
    subst (λ m. MovesOneStretchAnd c.args.space.now.bytes m.bytes c.args.found.name.0)
    (sym c.in-None-room_by_packing.ensures.refused) (itself_alone _ _)

pub relocate_named-requires-clause-has_run : goal.relocate_named-requires-clause-has_run
relocate_named-requires-clause-has_run c =
    let same = c.in-Some.ensures.1 in let enough = c.in-Some-room_by_packing.ensures.enough in
    let room = c.in-Some-room_by_packing.field-0 in
    spot_is_run _ _ _ _ (room_spot _ _ _ c.in-Some-room_by_packing.ensures.room) (omega arith)
