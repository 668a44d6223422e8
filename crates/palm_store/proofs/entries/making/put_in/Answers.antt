-- While the chunk is made the header is as it was; where it can't grow, the chunk is freed.
use Rattle.palm_store.proofs.Laws.{◌≡◌, ◌∙◌, Some, replicate, refl, sym, subst, Memory, HeapAccepted, held, rules, accepted_spells, entries_here, kind_here, keeps_then, is_movable, data_owner, made_movable, index_most, opened_here, spells_still, database_still, made_no_directory, puts_in, no_header_room, made_chunk, loose_here}
use Rattle.database_edits.proofs.Databases.{managers}
use Rattle.palm_store.proofs.NewEntries.{given_back}
use Rattle.palm_store.proofs.entries.making.put_in.Goals as goal

pub sys_find-requires : goal.sys_find-requires
sys_find-requires c =
    let spells = accepted_spells _ _ c.requires.accepted c.requires.opened.number in
    is_movable _ _ (managers _ _ (spells_still _ _ _ _ _ spells c.in_ok-name.ensures.made))

pub insert_entry-requires : goal.insert_entry-requires
insert_entry-requires c =
    let here = opened_here _ _ c.requires.accepted c.requires.opened in
    let made = c.in_ok-name.ensures.made in
    let still = database_still _ _ _ _ _ here.spells made in
    let has = c.requires.opened.number in record {
      opened = record {
        stands = c.sys_find.ensures.stands;
        spells = spells_still _ _ _ _ _ here.spells made;
        count = rw still here.count;
      };
      inside = rw still (index_most _ _ _ has c.requires.inside);
      few = rw (still, ← entries_here _ _ has) c.requires.few;
      kind = rw still (c.with_slot.ensures.kind ∙ c.requires.kind ∙ kind_here _ _ has);
      id = search rules;
    }

pub sys_find-made-requires : goal.sys_find-made-requires
sys_find-made-requires c =
    rw c.in-Err.ensures.refused (made_movable _ _ _ _ _ c.in_ok-name.ensures.made)

pub sys_free-requires-clause-no_directory : goal.sys_free-requires-clause-no_directory
sys_free-requires-clause-no_directory c =
    rw c.in-Err.ensures.refused
    (made_no_directory _ _ _ _ c.requires.accepted.heap c.in_ok-name.ensures.made)

pub returns-in-Err-clause-no_room : goal.returns-in-Err-clause-no_room
returns-in-Err-clause-no_room c =
    let spells = accepted_spells _ _ c.requires.accepted c.requires.opened.number in
    let ok = c.in_ok-name.ensures in
    no_header_room _ _ _ _ _ _ (c.with_slot.ensures.kind ∙ c.requires.kind) spells ok.made ok.lowers
    c.in-Err.ensures.no_room

pub returns-in-Err-clause-refused : goal.returns-in-Err-clause-refused
returns-in-Err-clause-refused c =
    given_back _ _ _ _ _ c.in_ok-name.ensures.made (rw c.in-Err.ensures.refused at c.sys_free.ensures.leaves)

pub returns-clause-puts : goal.returns-clause-puts
returns-clause-puts c =
    let spells = accepted_spells _ _ c.requires.accepted c.requires.opened.number in
    puts_in _ _ _ _ _ _ _ _ _ spells c.in_ok-name.ensures.made
    c.with_slot.ensures.is c.in_default.ensures.inserted

pub sys_free-requires-clause-here : goal.sys_free-requires-clause-here
sys_free-requires-clause-here c =
    let made = made_chunk c.args.heap.now.bytes c.sys_new.new.self.bytes c.in_ok-name.name.0 c.args.size data_owner c.in_ok-name.ensures.made in
    let there = subst (λ (m : Memory). held m.bytes c.in_ok-name.name.0 ≡ Some (record { bytes = replicate c.args.size 0; lock = 0; owner = data_owner })) (sym c.in-Err.ensures.refused) made in
    loose_here c.insert_entry.new.heap c.in_ok-name.name.0 c.sys_find-made.result _ (subst (λ (m : Memory). HeapAccepted m.bytes) (sym c.in-Err.ensures.refused) c.in_ok-name.ensures.made.leaves.frame.accepted) c.sys_find-made.ensures.stands there refl c.sys_find-made.ensures.unlocked

pub returns-in-Err-clause-kept : goal.returns-in-Err-clause-kept
returns-in-Err-clause-kept c = record { loan = search (rules, keeps_then); rest = search rules }

pub returns-clause-kept : goal.returns-clause-kept
returns-clause-kept c = record { loan = search (rules, keeps_then); rest = search rules }
