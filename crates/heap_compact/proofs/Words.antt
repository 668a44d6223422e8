-- The words that most proofs of this crate cite, passed on from one place. Declares nothing.
pub use Rattle.heap_model.specs.Bytes.{sized_to, u32_at, u32_bytes, overwritten}
pub use Rattle.heap_model.specs.Chunk.{Chunk, IsFree, IsLive, Spelled, SpelledAll, data_owner, fixed, fixed_lock, free, free_size, managers_owner, movable, need, seen, size_of, slot_named, total}
pub use Rattle.heap_model.specs.Heap.{BodyHere, HasDirectory, HeapAccepted, IsBody, IsHeap, IsKnownIfFixed, ManagersHere, Tiles, directory_of}
pub use Rattle.heap_model.specs.Layout.{Alters, Becomes, Claims, IsRoom, IsSpot, WritesPlain, exchanged, freed, gap, layout_of, merged, owned_freed, with_bytes}
pub use Rattle.heap_model.specs.Leaving.{NamesDirectory}
pub use Rattle.heap_model.specs.Lending.{HoldsHeap, IsLentBody, LendsOther, LentHere}
pub use Rattle.heap_model.specs.Maps.{changed}
pub use Rattle.heap_model.specs.Meaning.{LiveChunk, NamedHere}
pub use Rattle.heap_model.specs.Memory.{IsWithin, Lent, Memory, Misses, without, IsAmong, MissesOne}
pub use Rattle.heap_model.specs.MoreTables.{GainsTable, PutsTable, gained}
pub use Rattle.heap_model.specs.Packing.{BeginsStaying, EndsStaying, OpensBehind, SlidesOneStretch, WholeStretch, lives, moved_behind, moved_by_packing, opened, packed, packed_behind}
pub use Rattle.heap_model.specs.Placed.{AnyPlaced, EveryOne, EveryPlaced}
pub use Rattle.heap_model.specs.Placing.{Finds, SameFrame}
pub use Rattle.heap_model.specs.Reading.{chunks_of, held}
pub use Rattle.heap_model.specs.Resizing.{GrowsInPlace, Relocates, with_length}
pub use Rattle.heap_model.specs.Slots.{HasTable, IsSlot, Table, Tables, TablesLie, area_start, further_tables, is_chained, slot_size, slots_of, tables_of, slots_total}
pub use Rattle.heap_model.specs.Space.{AllFree, FitsInPlace, MovesAlone, MovesOneStretchAnd, NoRun, NoneStays, Short, ShortFor, free_front, greatest, has_chunk, moved_bytes, onto_first, place_of, room_of, rooms, rooms_of, runs_between, stays_put, stretches}
pub use Rattle.chunk_format.specs.Header.{HasHeader, IsWritableHeader, Reslots, h_offset_to, header_of, live_words, size_by, with_slot_at}
pub use Rattle.chunk_format.specs.declared.header.Header.{Header}
pub use Rattle.master_table.specs.Known.{HasLongTable, KnowsTables, Remembered, RemembersPlace}
pub use Rattle.raw_region.specs.ByteChanges.{changed_every}
pub use Rattle.heap_place.specs.Found.{IsFound, IsOne}
pub use Rattle.heap_place.specs.Gathers.{Before}
pub use Rattle.heap_place.specs.Lists.{Any, AreLists, CutsRoom, Fills, HasLists, IsFreeChunk, KeepsFree, SameChunks}
pub use Rattle.heap_place.specs.Relocation.{Copies, KeepsFound, RelocatesFound, RelocatesToRun, stand_in, with_name}
pub use Rattle.heap_place.specs.Resizes.{Resizes, RunBehind, TellsWhetherInPlace}
pub use Rattle.heap_place.specs.Search.{KeepsApart, Passed, free_by}
pub use Rattle.heap_place.specs.declared.found.Found.{Found}
pub use Rattle.heap_compact.specs.Kept.{IsSpace}
pub use Rattle.heap_compact.specs.Lifting.{AreCarried, HasFreeBehind, IsCarried, Lift, Lifting, Lifts, MendsAll, MendsOne, MendedUpTo, Walks, all_carried, carried}
pub use Rattle.heap_compact.specs.Packs.{BecomesExactly, MovesDown, HeaderStays, IsBehindRoom, IsDroppable, IsRun, LeavesLastRoom, PackedOne, Packing, Packs, PacksOne, PacksUpTo, last_room, moved_one, packed_one, room_after, slot_by}
pub use Rattle.heap_compact.specs.Resized.{FitsInStretch, IsLoose, Resized}
pub use Rattle.heap_compact.specs.Stretches.{HasRoom, HasRoomOf, HaveRooms, IsAmongAt, IsStretch, IsUnlocked, OpensExactly, SeenRooms, SeenUpTo, StretchIs, Summed, SumsUpTo, greatest_behind, IsFoundAmong}
pub use Rattle.heap_compact.specs.declared.stretch.Stretch.{Stretch}
pub use Rattle.std.proofs.Common.{◌≡◌, ℕ, List, ap, ◌∙◌, ◌+◌, ◌-◌, ◌≤◌, [], ◌∷◌, length, take, drop, refl, sym, subst, arith, ◌%◌, ◌^◌, ◌++◌, append_assoc, inl, length-take, length-drop, zero, suc, ◌<◌, ◌≢◌, replicate, Bool, Option, Some, None, inr, true, false, cond, rules, length-append}
pub use Rattle.laws_heap.proofs.Runs.{chunks_of-tiled, chunk_there, chunks_after}
pub use Rattle.laws_heap.proofs.Replacements.{SameHead, head_tables, head_slots, same_directory, replaced_tiles, replaced_heap, kept_directory}
pub use Rattle.laws_heap.proofs.SameLayouts.{frame_of, same_frame, frame_then, becomes_start, becomes_heap, slot_kept, becomes_held, becomes_place}
pub use Rattle.laws_heap.proofs.Plain.{plain_same, plain_then, lives_plain, replaced_plain, free_plain, middle_plain}
pub use Rattle.laws_heap.proofs.CarriedBytes.{Carries, Carries-within, u32_at-carried, slice-carried, IsFree-carried, IsLive-carried, Carries-then, slid_up, slid_down}
pub use Rattle.laws_heap.proofs.Chunks.{SpelledAll-end, total-append, SpelledAll-split, Spelled-size, Spelled-same, plain-callers, plain-movable, words_then, Spelled-unique, SpelledAll-push, SpelledAll-rest}
pub use Rattle.laws_heap.proofs.Frames.{SameBetween-within, u32_at-written, length-overwritten, overwritten-behind}
pub use Rattle.laws_heap.proofs.Slots.{loose_hold_none, both_hold_none, slot_facts, named_hold_none, slot_beside, SlotFacts, IsBeside, slot_alike, start_listed, each_slot, tables_lie, same_slots, ends_listed, free_hold_none}
pub use Rattle.laws_heap.proofs.Writes.{wrote_part, wrote_word, wrote_wider, wrote_then, WroteArea, area_replaces, wrote_slot, area_slots, beside_same, table_kept, WroteWithin, wrote_none, wrote_apart, wrote_slots, beside_word}
pub use Rattle.heap_place.proofs.FoundLaws.{heap_in_parts, Middle, middle_of, found_inside, own_slot, one_held, when_movable, name_held, total_whole, found_size, bytes_inside}
pub use Rattle.heap_place.proofs.CutLaws.{has_free, header_movable, wrote_words, free_header, rest_length, room_facts}
pub use Rattle.laws_heap.proofs.SlidImages.{unmoved_bytes, slot_unheld, slides_alike, slides_move_one, opens_one, moved_within, packs_one, one_packed_moved, packed_moved}
pub use Rattle.std.proofs.lemmas.List.{append-nil, length-replicate, take_all, take-take, drop-replicate}
pub use Rattle.std.proofs.lemmas.List.Sums.{sum_by-cons, sum_by-append}
pub use Rattle.std.specs.Prelude.{IsTrue, slice_range, min, ◌==◌, if◌then◌else◌, IsSome, ◌↔◌, ◌⊎◌, slice_index, max, filter, sum_by, All}
pub use Rattle.laws_heap.proofs.Placed.{AnyPlaced-mid, EveryPlaced-split, AnyPlaced-split, EveryPlaced-append, AnyPlaced-left, AnyPlaced-right}
pub use Rattle.laws_heap.proofs.Exchanges.{gap_free, gap_total, ChangesName, held_parts}
pub use Rattle.laws_heap.proofs.Slides.{lives-append, lives_total, lives_twice, none_stays-append, stretch_packed}
pub use Rattle.laws_heap.proofs.Stretches.{room_of-middle, one_stretch, short_for_parts, stretches_behind, run_then, rooms_of-append}
pub use Rattle.std.proofs.lemmas.Bool.{cases_lt, OnTrue_at, OnTrue_from, cases_eq}
pub use Rattle.std.specs.Bool.{OnTrue, OnFalse}
pub use Rattle.laws_heap.proofs.Spots.{claims_change, spot_unheld, spot_is_run, room_spot, spot_not_short}
pub use Rattle.laws_heap.proofs.Resizings.{length-sized_to, live_sized, grow_changes, finds_behind, opened_behind}
pub use Rattle.laws_heap.proofs.Relocation.{relocates, relocate_changes}
pub use Rattle.heap_place.proofs.KeepLaws.{keeps_replaced, live_apart, outside_apart, links_plain}
pub use Rattle.laws_heap.proofs.Fits.{spot_not_short_for, short_for_beyond, stretch_not_short}
pub use Rattle.heap_place.proofs.WalkLaws.{free_within, free_of, passed_start, passed_at, passed_more, passed_all, free_fits_by, passed_there, passed_size}
pub use Rattle.laws_heap.proofs.Bodies.{IsBody-low, IsBody-high}
pub use Rattle.chunk_format.proofs.HeaderLaws.{size_by-header_of}
pub use Rattle.heap_place.proofs.LentLaws.{row_misses, one_body_within, written_holds, loose_other, found_markable, back_lends, length-slice, lending_lends, one_written_lends, other_still, spot_other, one_within, one_altered_lends, name_size}
pub use Rattle.laws_heap.proofs.LentBodies.{each_of, each_to, lent_chunk, run_apart, all_free_loose, apart, in_front, one, behind, stays_here, none_lent, run_within, replaced_lends, loose_lends, header_misses, loose_misses, table_within, still_within, slot_still_within, walked_misses}
pub use Rattle.heap_place.proofs.ResizeLaws.{run_facts, sized_writable, WasResized, resized_by, none_behind, shrinks}
pub use Rattle.laws_heap.proofs.Lending.{part_within, part_misses}
pub use Rattle.heap_place.proofs.SpotLaws.{cut_claims, claims_same, taken_chunk, cut_chunk}
pub use Rattle.heap_place.proofs.Words.{same_lents, same_bytes}
pub use Rattle.heap_place.proofs.ListLaws.{lists_kept, lists_any, new_lists, lists_weaker}
