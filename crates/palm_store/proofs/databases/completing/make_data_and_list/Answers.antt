-- The data is made and then the slot listed; or there was no room for that, and the data is freed.
use Rattle.palm_store.proofs.Laws.{on_err, slides_then, none_slid, own_chunks, taken_back, keeps_makes, same_bytes, no_listing_then}
use Rattle.palm_store.proofs.WholeRooms.{runs_more}
use Rattle.palm_store.proofs.databases.completing.make_data_and_list.Goals as goal

pub returns-in_err-make_data-clause-no_room : goal.returns-in_err-make_data-clause-no_room
returns-in_err-make_data-clause-no_room c =
    on_err _ _ (runs_more _ _ _ _ _ c.in_err-make_data.ensures.no_room)

pub list_last-requires-clause-few : goal.list_last-requires-clause-few
list_last-requires-clause-few c =
    let m = c.in_ok-make_data.ensures.made in
    rw (same_bytes _ _ c.requires.heap m.frame.accepted (keeps_makes _ _ _ _ m)) c.requires.few

pub free_named-requires-clause-own : goal.free_named-requires-clause-own
free_named-requires-clause-own c =
    rw c.in-Err.ensures.refused (own_chunks _ _ _ _ c.requires.heap c.in_ok-make_data.ensures.made)

pub returns-in-Err-clause-no_room : goal.returns-in-Err-clause-no_room
returns-in-Err-clause-no_room c =
    no_listing_then _ _ _ _ c.requires.heap c.in_ok-make_data.ensures.made c.in-Err.ensures.no_room

pub returns-in-Err-clause-refused : goal.returns-in-Err-clause-refused
returns-in-Err-clause-refused c =
    taken_back _ _ _ _ _ c.requires.heap c.in_ok-make_data.ensures.made
    (rw c.in-Err.ensures.refused at c.free_named.ensures.leaves)

pub returns-in-Err-clause-kept : goal.returns-in-Err-clause-kept
returns-in-Err-clause-kept c =
    let made = slides_then _ _ _ c.make_data.ensures.kept c.list_last.ensures.kept in
    slides_then _ _ _ made (none_slid _ _ c.free_named.ensures.kept)

pub returns-clause-kept : goal.returns-clause-kept
returns-clause-kept c = slides_then _ _ _ c.make_data.ensures.kept c.list_last.ensures.kept
