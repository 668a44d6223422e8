-- A header's chunk is made, and then listed; or freed again, and then all is held that was held.
use Rattle.palm_store.proofs.Laws.{refl, rules, keeps_then, made_movable, listed_new, made_directory, few_bytes, given_back, no_listing, fresh_apart, made_here, owned_here}
use Rattle.palm_store.proofs.databases.creating.list_new.Goals as goal

pub list_last-requires-clause-few : goal.list_last-requires-clause-few
list_last-requires-clause-few c =
    rw (made_directory _ _ _ 78 c.requires.accepted.heap c.in_ok-slot.ensures.made)
    (few_bytes _ c.requires.accepted)

pub sys_find-chunk-requires : goal.sys_find-chunk-requires
sys_find-chunk-requires c =
    rw c.in-Err.ensures.refused (made_movable _ _ _ _ _ c.in_ok-slot.ensures.made)

pub sys_free-requires-clause-no_directory : goal.sys_free-requires-clause-no_directory
sys_free-requires-clause-no_directory c =
    rw c.in-Err.ensures.refused
    (fresh_apart _ _ _ 78 c.requires.accepted.heap c.in_ok-slot.ensures.made)

pub sys_free-requires-clause-here : goal.sys_free-requires-clause-here
sys_free-requires-clause-here c =
    rw c.in-Err.ensures.refused (owned_here _ _ _ (made_here _ _ _ 78 c.in_ok-slot.ensures.made) refl)

pub returns-in-Err-clause-no_room : goal.returns-in-Err-clause-no_room
returns-in-Err-clause-no_room c =
    no_listing _ _ _ c.requires.accepted.heap c.in_ok-slot.ensures.made
    c.in_ok-slot.ensures.lowers c.in-Err.ensures.no_room

pub returns-in-Err-clause-refused : goal.returns-in-Err-clause-refused
returns-in-Err-clause-refused c =
    given_back _ _ _ _ 78 c.in_ok-slot.ensures.made (rw c.in-Err.ensures.refused at c.sys_free.ensures.leaves)

pub returns-clause-lists : goal.returns-clause-lists
returns-clause-lists c =
    listed_new _ _ _ _ 78 c.requires.accepted.heap c.in_ok-slot.ensures.made c.in_default.ensures.lists

pub returns-clause-kept : goal.returns-clause-kept
returns-clause-kept c = record { loan = search (rules, keeps_then); rest = search rules }

pub returns-in-Err-clause-kept : goal.returns-in-Err-clause-kept
returns-in-Err-clause-kept c = record { loan = search (rules, keeps_then); rest = search rules }
