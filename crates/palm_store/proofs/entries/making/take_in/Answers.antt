-- The header spells the entry first, and then the chunk is given to the database.
use Rattle.palm_store.proofs.Laws.{◌∙◌, rules, on_err, accepted_spells, entries_here, kind_here, keeps_then, index_most, opened_here, given, given_kept, given_movable, given_no_directory, takes_in, takes_none, no_room_to_take}
use Rattle.palm_store.proofs.entries.making.take_in.Goals as goal

pub insert_entry-requires : goal.insert_entry-requires
insert_entry-requires c =
    let has = c.requires.opened.number in record {
      opened = opened_here _ _ c.requires.accepted c.requires.opened;
      inside = index_most _ _ _ has c.requires.inside;
      few = rw (← entries_here _ _ has) c.requires.few;
      kind = c.with_slot.ensures.kind ∙ c.requires.kind ∙ kind_here _ _ has;
      id = search rules;
    }

pub sys_set_owner-requires : goal.sys_set_owner-requires
sys_set_owner-requires c =
    let a = c.requires.accepted in
    let g = given _ _ c.requires.given in
    let l = c.in_ok-insert_entry.ensures.inserted in record {
      movable = given_movable _ _ _ g (given_kept _ _ _ _ _ a c.requires.opened.number g l);
      no_directory = given_no_directory _ _ _ a.heap g l.frame.directory;
      some_owner = search rules;
      most_owner = search rules;
    }

pub returns-in_err-insert_entry-clause-no_room : goal.returns-in_err-insert_entry-clause-no_room
returns-in_err-insert_entry-clause-no_room c =
    let spells = accepted_spells _ _ c.requires.accepted c.requires.opened.number in
    on_err _ _ (no_room_to_take _ _ _ (c.with_slot.ensures.kind ∙ c.requires.kind) spells
    c.in_err-insert_entry.ensures.no_room)

pub returns-clause-takes : goal.returns-clause-takes
returns-clause-takes c =
    takes_in _ _ _ _ _ _ _ _ c.with_slot.ensures.is c.in_ok-insert_entry.ensures.inserted
    c.sys_set_owner.ensures.leaves

pub returns-clause-none_made : goal.returns-clause-none_made
returns-clause-none_made c =
    takes_none _ _ _ _ _ _ c.requires.accepted c.requires.opened.number
    (given _ _ c.requires.given) (returns-clause-takes c)

pub returns-clause-kept : goal.returns-clause-kept
returns-clause-kept c = record { loan = search (rules, keeps_then); rest = search rules }
