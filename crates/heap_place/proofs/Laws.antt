-- Re-exports the laws that several answers of this crate cite. Declares nothing.
pub use Rattle.heap_place.proofs.Words.{rules, same_bytes, same_lents, ◌∙◌, ap, arith, IsFreeChunk, need, length-replicate, inl, refl, slot_facts, slot_still_within, ◌+◌, ◌-◌, IsSpot, part_misses, spot_within, sym, subst, IsBound, plain_then, IsWithin, u32_bytes, overwritten, ButAt, Option, Some, None, IfNone, ℕ, List, HeapAccepted, chunks_of, Found, NothingAt, NoneFixedAs, NoSlotHolds, found_within, OnFalse_at, HoldsPlace, both_ways, Passed, NoneLentAmong, Memory, IsOne, ◌++◌, IsRoom, Searched, walked_misses, Looking, slice_set, AreLists, Misses, NoneBeginsAt, HaveFreeBytes, free_by}
pub use Rattle.heap_place.proofs.AlikeLaws.{one_word, no_words, alike_spot, alike_cuts, alike_becomes, taken_outside, linked_past, linked_nowhere, chunk_of_class}
pub use Rattle.heap_place.proofs.AlterLaws.{relocked_there, reowned_there}
pub use Rattle.heap_place.proofs.CutLaws.{cut_facts, fixed_claimed, claimed_table, claimed_write, room_facts, rest_length, was_cut}
pub use Rattle.heap_place.proofs.FoundLaws.{bytes_inside, found_inside}
pub use Rattle.heap_place.proofs.GatherLaws.{bound_chunk, bound_spot, spot_least, chunk_bound, header_bound, gathered_lists, passed_lists, alone_lists, pushed_lists}
pub use Rattle.heap_place.proofs.KeepLaws.{links_chunk, links_plain, free_there, was_pushed}
pub use Rattle.heap_place.proofs.LentLaws.{one_within, relocked_holds, reowned_holds, words_within, body_still, filled_holds, becomes_holds, placed_lends, first_within, second_within, linked_holds, found_markable, freed_holds}
pub use Rattle.heap_place.proofs.LentOwners.{freed_none_lent}
pub use Rattle.heap_place.proofs.ListLaws.{new_lists, lists_weaker, popped}
pub use Rattle.heap_place.proofs.LookupLaws.{is_fixed, nothing_at, held_slot, slot_low, slot_live, slot_fields, none_begins_holds, slot_unread, low_holds_none, other_holds_none, elsewhere_holds_none, slot_one, movable_place, header_read, movable_holds_place, begins_passed, fixed_found, fixed_there, fixed_passed}
pub use Rattle.heap_place.proofs.NewTables.{table_written, table_lays, table_claimed}
pub use Rattle.heap_place.proofs.OwnedLaws.{owned_one, owned_place, lent_not_owned, lent_elsewhere, begins_other, none_of_owner, owned_apart, freeing_start, freeing_there, freeing_kept, freeing_more, freeing_all, owned_other}
pub use Rattle.heap_place.proofs.RegrownLaws.{none_unlinked}
pub use Rattle.heap_place.proofs.ReleaseLaws.{given_size, own_slot_within, emptied_loose, emptied_locked, gave_back, given_lists, chunk_up_to}
pub use Rattle.heap_place.proofs.RoomLaws.{search_start, search_there, search_fits, search_size, search_more, search_found, search_none}
pub use Rattle.heap_place.proofs.RunLaws.{bound_misses, from_bound, from_running, run_start, run_inside, run_more, run_done, bound_on, a_chunk_there, free_read, none_at_the_end}
pub use Rattle.heap_place.proofs.SpliceLaws.{look_more, looked_free}
pub use Rattle.heap_place.proofs.SpotLaws.{cut_chunk, chunk_spot}
pub use Rattle.heap_place.proofs.TakeLaws.{chunk_inside, becomes_links, listed_chunk, rest_chunk, taken_all, taken_rest, cut_links, spot_front, begun_chunk}
pub use Rattle.heap_place.proofs.WalkLaws.{passed_chunk, passed_misses, passed_all, passed_size, free_fits, free_fits_by, free_passed}
pub use Rattle.heap_place.proofs.WithinLaws.{keeps_second, keeps_directory}
pub use Rattle.laws_heap.proofs.Directory.{directory_written, named_start}
pub use Rattle.laws_heap.proofs.Fits.{no_run_beyond}
pub use Rattle.laws_heap.proofs.LentTables.{written_lends, added_lends}
pub use Rattle.laws_heap.proofs.Replacements.{head_tables}
pub use Rattle.master_table.proofs.RowLaws.{starts_still}
