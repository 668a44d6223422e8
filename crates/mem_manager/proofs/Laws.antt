-- Re-exports the laws that several answers of this crate cite. Declares nothing.
pub use Rattle.mem_manager.proofs.Words.{◌+◌, refl, sym, subst, arith, Passed, passed_start, passed_there, passed_size, passed_all, walked_misses, AreCounted, ◌≡◌, ap, ◌∙◌, slice_range, Memory, IsWithin, HeapAccepted, LendsBodies, one_body_within, chunks_of, packed_alike, inl, inr, Reply, ◌<◌, IsCallers, ℕ, IsFound, Found, IsLent, IsNextLoan, ◌≢◌, Some, None, fixed_lock, held, ChangesName, owner_under, OnLoan, PutsBack, IsOutUnder, itself_alone, replicate, length-replicate, same_lents, ◌++◌, [], ◌∷◌, length, length-append, not, List, text_of, take_while, ◌==◌, bytes_under, checks_of_growth, name_held, IsMovable, EmptySlot, IsNextEmpty, MakesNew, true, is_chained, false≢true, u32_at, slot_stands, need, short_beyond, ShortFor, MovesOneStretchAnd, Resized, nothing_alone, OnTrue_at, also_out_checks}
pub use Rattle.heap_compact.proofs.MadeRoomLaws.{slides_nothing, moves_none}
pub use Rattle.heap_compact.proofs.SpaceWrites.{changed_part, length-changed_part}
pub use Rattle.master_table.proofs.CountLaws.{some_free}
pub use Rattle.mem_manager.proofs.ChunkCalls.{not_the_directory, relock_changes, locked, below_fixed, read_known, write_beyond, write_changes, write_passes, write_refused, overwrites, reown_changes, can_go_to, reowned, size_known, unlocked}
pub use Rattle.mem_manager.proofs.CountLaws.{counted_within, free_fits, counted_more}
pub use Rattle.mem_manager.proofs.Growth.{resize_replied, growth_lent, resize_refused, managed_resized, keeps_replied, never_fits, growth_locked, growth_short, grown_passes, grown_leaves, grown_moves_nothing, moved_passes}
pub use Rattle.mem_manager.proofs.KeptLoans.{keeps_others, named_still, keeps_map, keeps_made, keeps_changed}
pub use Rattle.mem_manager.proofs.KnownLoans.{lent_of, here_of, placed, lent_owned, callers_bytes, not_lent_other, here_inside, unlocked_here, lent_begins, managers_here, other_not_lent}
pub use Rattle.mem_manager.proofs.LoanCalls.{lends_of, lends_none, begins_some, next_loan, none_above, out_unmoved, out_held, out_there, out_whole, out_changes, out_leaves, out_is_lent}
pub use Rattle.mem_manager.proofs.MoreSlots.{used_gained, more_made, more_once, puts_move_nothing}
pub use Rattle.mem_manager.proofs.NewChunks.{owner_freed, managed_anew, freed, gives_back, managed_freed, new_step, ptr_made, ptr_claimed, ptr_unheld, managed_ptr, zeros, managed_made, new_left, new_claimed, new_lowers, new_unheld, used_made, as_next, as_start, start_made}
pub use Rattle.mem_manager.proofs.Places.{refused_unknown, found_there, nowhere, managers_there}
pub use Rattle.mem_manager.proofs.RememberedNames.{remembered_held}
pub use Rattle.mem_manager.proofs.SlidChunks.{compacted, nothing_slides, itself_one, once_then, made_moves_nothing, nothing_then, one_stretch_then, first_slid}
pub use Rattle.mem_manager.proofs.StoreCalls.{body_found, gone_moves_nothing, leaves_gone, managed_named, found_viewed, found_under, within_viewed, is_written, slice_found, usable, owner_viewed, some_viewed, lock_viewed, stands_found, movable_there, movable_loose, movable_viewed, within_found, may_go_to, part_length}
