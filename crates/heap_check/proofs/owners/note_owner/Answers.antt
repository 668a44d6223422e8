-- `note_owner` marks the slot that a movable chunk names with its owner, by the laws of NotingLaws.
use Rattle.heap_check.proofs.Laws.{◌-◌, ◌/◌, length, set, subst, sym, Header, IsRoomFor, NotesOwner, note_set}
use Rattle.heap_check.proofs.owners.note_owner.Goals as goal

pub returns-in-Movable-clause-noted : goal.returns-in-Movable-clause-noted
returns-in-Movable-clause-noted c = subst (λ (h : Header). NotesOwner h c.args.owners.now
    (set c.args.owners.now ((c.in-Movable.slot - 16) / 4) c.in-Movable.owner)) (sym c.in-Movable.is)
    (note_set c.args.owners.now c.in-Movable.length c.in-Movable.lock c.in-Movable.owner
    c.in-Movable.slot (subst (λ (h : Header). IsRoomFor h (length c.args.owners.now))
    c.in-Movable.is c.requires.room))
