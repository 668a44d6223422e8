-- `check_chained_noting` has room for the owners of all slots, by the laws of NotingLaws.
use Rattle.heap_check.proofs.Laws.{◌≡◌, ◌/◌, ℕ, Bool, cond, length, ap, arith, marks_needed, chained_room}
use Rattle.heap_check.proofs.check.check_chained_noting.Goals as goal

pub note_owners-requires-clause-room : goal.note_owners-requires-clause-room
note_owners-requires-clause-room c =
    let many : marks_needed c.args.region.now.bytes ≡ length c.args.region.now.bytes / 4 =
    ap (λ (b : Bool). cond {A = ℕ} b (length c.args.region.now.bytes / 4) 65535)
    c.requires.chained in
    let room = c.requires.room in
    chained_room c.args.region.now.bytes (length c.args.owners.now) c.in-Ok.ensures.accepted
    (omega (arith, many, room))
