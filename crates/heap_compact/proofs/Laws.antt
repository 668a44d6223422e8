-- Re-exports the laws that several answers of this crate cite. Declares nothing.
pub use Rattle.heap_compact.proofs.Words.{rules, loose_other, ◌≡◌, ℕ, sym, subst, arith, Short, MovesOneStretchAnd, need, short_for_beyond, room_spot, spot_is_run, [], ◌∙◌, part_within, table_within, same_bytes, same_lents, refl, spot_not_short, ◌-◌, ◌≤◌, moved_within, packed_moved, slot_still_within, IsDroppable, ◌+◌, Before, new_lists, lists_any, inl, inr, ap, size_by, lists_weaker, take, IsOne, one_written_lends, plain_then, lists_kept, ◌≢◌, SameFrame, Found, LendsOther, other_still, spot_other, length-replicate, IsFreeChunk, room_facts, cut_chunk, cut_claims, found_inside, one_within, one_altered_lends, name_size, RunBehind, rest_length, run_facts, sized_writable, WasResized, resized_by, found_size, links_plain, replicate, Memory, u32_at, movable, IsSlot, Claims, slot_kept, taken_chunk, fixed, is_chained, PutsTable, directory_of, Alters, freed, WritesPlain, Becomes, layout_of, owned_freed, ◌∷◌, Lent, HoldsHeap, found_markable, lending_lends, none_behind, shrinks, List, slice_range, length-slice, bytes_inside, without, back_lends, ◌++◌, length, length-append, overwritten, overwritten-behind, still_within, SeenUpTo, walked_misses}
pub use Rattle.heap_compact.proofs.CopyLaws.{lift_bounds, carried_up}
pub use Rattle.heap_compact.proofs.DropLaws.{DropFacts, drop_facts, drop_table, all_dropped}
pub use Rattle.heap_compact.proofs.ExactLaws.{exactly_linked, exactly_becomes}
pub use Rattle.heap_compact.proofs.FoundAgain.{named_one, some_name, moved_owner, same_found, then_freed}
pub use Rattle.heap_compact.proofs.KeptLaws.{viewed_heap, viewed_space, tables_kept, tables_gained, kept_space}
pub use Rattle.heap_compact.proofs.LentLifts.{lifted_within, lifted_holds, table_still, walk_table, walk_misses, slot_again_within}
pub use Rattle.heap_compact.proofs.LentRuns.{dropped_within, dropped_holds, packed_holds, front_within, regrown_within, resized_holds, resized_total, length_size}
pub use Rattle.heap_compact.proofs.LiftLaws.{lift_done, lifted_room}
pub use Rattle.heap_compact.proofs.MadeRoomLaws.{slides_nothing, moves_none}
pub use Rattle.heap_compact.proofs.MemoryLaws.{within_misses, same_slid}
pub use Rattle.heap_compact.proofs.PackLaws.{run_whole, compacted, packing_start, packing_more, packing_next, packing_on, packing_done, room_packed, behind_spelled, join_writable, packed_free, free_keeps, room_in_front, slot_there, droppable, packed_movable, packed_kept, kept_linked, behind_misses, join_misses}
pub use Rattle.heap_compact.proofs.RelocateLaws.{CopiedTo, copied_there, taken_fits, stand_apart, relocated_found, slot_emptied, freed_keeps, owner_fits, stands_there, stand_keeps, named_there, named_writable, header_table, had_run}
pub use Rattle.heap_compact.proofs.ResizedLaws.{is_loose, loose_slid, slid_then, slid_alone, opens_slides, fits_opened, one_of, loose_there, loose_lock, grown_resized, resized_named, moved_resized, resized_here, run_resized, run_not_short, fits_in_stretch, fits_not_short, short_own, own_fits, room_fits}
pub use Rattle.heap_compact.proofs.SeenLaws.{unlocked, seen_start, seen_chunk, seen_more, seen_stay, seen_found, seen_all}
pub use Rattle.heap_compact.proofs.SpaceWrites.{SpaceWritten, space_written, body_within, changed_part, length-changed_part, room_claimed, BodyWritten, body_written}
pub use Rattle.heap_compact.proofs.StretchLaws.{StretchPacked, pack_facts, stretch_run, among_stretch, packed_frame, slot_then, numbers, room_behind, OpensRoom, opened_some, opened_none, room_left, packed_end}
pub use Rattle.heap_place.proofs.AlikeLaws.{alike_behind, alike_resizes}
pub use Rattle.heap_place.proofs.GatherLaws.{kept_lists, becomes_twice}
pub use Rattle.heap_place.proofs.RegrownLaws.{resized_keeps, resized_rest, run_spot, resized_lists, regrown_lists, regrown_all, resizes_links}
pub use Rattle.laws_heap.proofs.Directory.{named_spot, relocated_again}
pub use Rattle.laws_heap.proofs.MoreTables.{puts_after, puts_before}
pub use Rattle.laws_heap.proofs.SameLayouts.{same_slots}
pub use Rattle.laws_heap.proofs.Unmoved.{alone_one, itself_alone}
pub use Rattle.master_table.proofs.FurtherLaws.{knows_still}
pub use Rattle.std.specs.Prelude.{min}
