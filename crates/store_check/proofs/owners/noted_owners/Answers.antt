-- `noted_owners` makes room for the owners of all slots, by the laws of heap_check.
use Rattle.std.proofs.Common.{length, ap, arith}
use Rattle.store_check.proofs.owners.noted_owners.Goals as goal

pub note_owners-requires-clause-room : goal.note_owners-requires-clause-room
note_owners-requires-clause-room g c number s =
    let room = c.mark_count.ensures.room number s in
    let len = ap length c.deref_mut.ensures.value in
    let size = c.in_ok-owners.ensures.len in
    omega arith
