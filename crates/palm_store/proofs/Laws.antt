-- The lemmas of this crate that proofs of its functions cite, passed on from one place. Declares nothing.
pub use Rattle.palm_store.proofs.BlockCalls.{block_told, known_number, may_be_written, may_not_be_written, no_block_there}
pub use Rattle.palm_store.proofs.Creation.{below_most, created, empty_fits, header_put, header_spells, most_there, name_taken, not_created, not_named, not_taken, too_many}
pub use Rattle.palm_store.proofs.DataChunks.{data_movable, for_data}
pub use Rattle.palm_store.proofs.EntriesHere.{attributes_in_store, count_fits, count_here, fits_here, index_below, index_most, of_entry, opened_here, records_here}
pub use Rattle.palm_store.proofs.EntryChanges.{counting_steps, drop_steps, free_steps, hand_over_steps, move_steps, name_apart, named_owner, respelled_none, set_steps, slot_movable, slot_no_directory, slot_owner, slot_some, slot_unlocked}
pub use Rattle.palm_store.proofs.EntryInfos.{emptied_data, emptied_id, emptied_names, fitting_info, informed_data, informed_names, informed_own}
pub use Rattle.palm_store.proofs.FilledData.{data_held, data_long, data_seen, filled_movable, filled_steps, lent_movable, none_seen, rewritten_steps}
pub use Rattle.palm_store.proofs.GainedChunks.{IsSizeAt, freed_upto, makes_more, number_at, own_beside, own_chunks, own_movable, own_unlocked, runs_at, taken_back}
pub use Rattle.palm_store.proofs.GivenData.{attach_leaves, attach_steps, given, given_kept, given_kept_then, given_movable, given_no_directory, no_room_to_take, owned_none, swap_steps, takes_in, takes_none, written_then_owned}
pub use Rattle.palm_store.proofs.InfoBlocks.{block_here, block_movable, block_no_directory, is_block, set_block_steps, take_block_steps}
pub use Rattle.palm_store.proofs.KnownIds.{attributes_free, beside_named, change_free, come_free, emptied_gets, go_free, ids_here, left_beside, move_free, named_gets, nothing_known, raised_free, resource_beside, same_number, stand_still}
pub use Rattle.palm_store.proofs.ListedSlots.{begun, chunk_of, directory_few, directory_loose, directory_owned, directory_short, extended, few_bytes, fresh_apart, given_back, grown_room, growth_short, loose_movable, made_chunk, made_here, made_movable, put_here, sized_here, the_directory}
pub use Rattle.palm_store.proofs.Loans.{directory_here, loose_here, managers_here, none_lent, number_here, owned_here, seen_bytes}
pub use Rattle.palm_store.proofs.Lookups.{answered, at_index, counted, no_index, told}
pub use Rattle.palm_store.proofs.Maps.{bytes_held, owner_held}
pub use Rattle.palm_store.proofs.MemoryCalls.{ask_viewed, viewed}
pub use Rattle.palm_store.proofs.NamedChunks.{any_at, entry_inside, first_named, freed_next, freed_none, freed_one, header_held, header_inside, header_like, header_owner, later_named, length-named, named_at, none_of, second_named, slot_left, slot_other}
pub use Rattle.palm_store.proofs.NewEntries.{database_still, left_as_before, made_no_directory, new_leaves, new_steps, no_header_room, puts_in, record_made, spells_still}
pub use Rattle.palm_store.proofs.Numbers.{counts, directory_movable, directory_read, listed_at, no_directory, number_in, number_shape, number_spelled, slot_in, slot_read}
pub use Rattle.palm_store.proofs.Rests.{then_moved, then_written}
pub use Rattle.palm_store.proofs.StillOpen.{open_with_attributes, open_without_data}
pub use Rattle.palm_store.proofs.WholeBytes.{Writes, body_now, entry_at, puts_front, start_room, then_rebodied, whole_fits, whole_header, whole_spelled, writes_all, writes_fits, writes_inside, writes_more, writes_none}
pub use Rattle.palm_store.proofs.WholeChunks.{keeps_makes, listed_new, listed_whole, made_directory, no_listing, no_listing_then, no_rest_room, same_bytes, whole_written}
pub use Rattle.palm_store.proofs.Words.{AlreadyExists, AreOwnChunks, CanHave, Create, Database, DatabaseFits, Entry, FirstBrings, HasDataOf, HasLockedData, HeapAccepted, IfNone, IfSome, IsDataName, IsDatabaseName, IsEntryData, IsHeaderOf, IsHere, IsLent, IsMadeOf, IsMovable, IsOpened, IsSpelled, IsTaken, KeepsLoan, KnownIds, Leaves, LeavesStore, List, ListsNew, MakesWhole, MayBeGiven, MayOwn, Memory, Name, NewEntry, None, NotEnoughSpace, OnOk, OnlyWrites, Option, Refusal, Result, RunsOut, SetInfo, ShortFor, Some, StandsAs, Tells, [], a_record, accepted_spells, all_gone, ap, arith, below_more, both_ways, bytes_under, checks_of_attaching, checks_of_data_growth, checks_of_making, checks_of_whole, data_freed, data_in, data_owner, data_sizes, data_under, database_in, directory_bytes, directory_of, drop, dropped_to, empty_database, entries_here, entries_in, entries_named, entry_bytes, entry_changed, entry_count_in, entry_given, entry_here, entry_of, entry_offset, entry_under, entry_with, false, flat_map, get_or-map, gone, growth_checks, handed_on, has_resources, header_bytes, header_size, held, if_err, info_block, info_block_under, info_of, inl, inr, is_movable, keeps_itself, keeps_then, kept_then, kind_here, length, length-header_bytes, length-map, length-replicate, length-set, length-u32_bytes, listed, listing_part, listing_slots, makes_resource, makings, managers_loose, most_databases, most_entries, name_under, named_under, need, none_slid, numbers_in, on_err, overwritten, raised, refl, refused, replicate, resize_steps, resources_under, rewritten, rules, same_steps, size_of_data, sized, slides_then, spelled, stands_still, store_of, subst, sym, take, take-map, times, true, u32_at, whole_database, whole_parts, whole_slots, with_info, without_data, writes_then, ℕ, ◌*◌, ◌++◌, ◌+◌, ◌-◌, ◌<◌, ◌∙◌, ◌∷◌, ◌≡◌, ◌≢◌, ◌≤◌}
