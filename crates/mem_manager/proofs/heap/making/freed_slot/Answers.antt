-- The slot of a movable chunk is a slot.
use Rattle.mem_manager.proofs.Laws.{◌∙◌, name_held, IsMovable, movable_there, movable_loose}
use Rattle.heap_place.proofs.LookupLaws.{movable_holds_place}
use Rattle.mem_manager.proofs.heap.making.freed_slot.Goals as goal

pub returns-then-found-ne-FIXED_LOCK : goal.returns-then-found-ne-FIXED_LOCK
returns-then-found-ne-FIXED_LOCK c =
    let accepted = c.requires.heap.accepted in
    λ some.
    let image = c.args.region.now.bytes in let name = c.args.found.name.0 in
    let f = c.requires.found in
    let m : IsMovable image name = record { live = f.live; is_held = name_held image name c.args.found accepted f; movable = λ fixed. c.if-found-ne-FIXED_LOCK.true (f.lock_is ∙ fixed) } in
    (movable_holds_place image name accepted (movable_there m) (movable_loose m)).is_slot
