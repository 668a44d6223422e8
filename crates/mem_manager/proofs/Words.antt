-- The words that several proof files of this crate use, under one path.
pub use Rattle.std.proofs.Common.{Bool, List, None, Option, Some, [], ap, arith, cond, false, inl}
pub use Rattle.std.proofs.Common.{inr, length, length-append, length-drop, length-take, not, refl}
pub use Rattle.std.proofs.Common.{replicate, subst, suc, sym, take, true, zero, ℕ, ◌++◌, ◌+◌, ◌-◌}
pub use Rattle.std.proofs.Common.{◌<◌, ◌∙◌, ◌∷◌, ◌≡◌, ◌≢◌, ◌≤◌}
pub use Rattle.std.proofs.lemmas.Bool.{OnTrue_at, both_ways, cases_eq, cases_lt, eq-eqb, false≢true}
pub use Rattle.std.proofs.lemmas.Bool.Decides.{nat_tests}
pub use Rattle.std.proofs.lemmas.List.{append-nil, drop_all, get_or-replicate, length-replicate}
pub use Rattle.std.proofs.lemmas.List.{take_all}
pub use Rattle.std.proofs.lemmas.List.Sums.{prefix_len_is, sum_by-append, sum_by-cons}
pub use Rattle.std.specs.Bool.{OnTrue}
pub use Rattle.std.specs.List.{take_while}
pub use Rattle.std.specs.Prelude.{Err, IfErr, IfOk, IfSome, IsSome, IsTrue, Ok, OnErr, OnOk, Result}
pub use Rattle.std.specs.Prelude.{count_by, if◌then◌else◌, slice_index, slice_range, sum_by, ◌%◌}
pub use Rattle.std.specs.Prelude.{◌/◌, ◌==◌, ◌↔◌, ◌⊎◌}
pub use Rattle.heap_model.specs.Bytes.{overwritten, u32_at}
pub use Rattle.heap_model.specs.Chunk.{Chunk, Spelled, data_owner, fixed, fixed_lock, free}
pub use Rattle.heap_model.specs.Chunk.{free_size, is_fixed, is_movable, is_owned_by}
pub use Rattle.heap_model.specs.Chunk.{movable, need, size_of, total}
pub use Rattle.heap_model.specs.Heap.{HeapAccepted, directory_of}
pub use Rattle.heap_model.specs.Layout.{Alters, Becomes, Claims, IsSpot, layout_of, owned_freed}
pub use Rattle.heap_model.specs.Layout.{with_bytes, with_lock, with_owner}
pub use Rattle.heap_model.specs.Leaving.{Leaves, NamesDirectory, rewritten}
pub use Rattle.heap_model.specs.Lending.{HoldsHeap, IsLent, IsLentBody, KeepsLoan, LendsBodies}
pub use Rattle.heap_model.specs.Lending.{LendsNoneOf, LendsOther, LentHere}
pub use Rattle.heap_model.specs.Maps.{callers_map, changed, changed_at, gone, not_owned, put}
pub use Rattle.heap_model.specs.Maps.{updated}
pub use Rattle.heap_model.specs.Meaning.{LiveChunk, NamedHere}
pub use Rattle.heap_model.specs.Memory.{EachLent, IsWithin, Lent, Memory, SomeLent, without}
pub use Rattle.heap_model.specs.MemorySteps.{Does, Frames, IsLocked, IsNoCaller, IsNowhere, LendsOf}
pub use Rattle.heap_model.specs.MemorySteps.{MemoryCall, MemoryStep, Of, ReachesBeyond}
pub use Rattle.heap_model.specs.MemorySteps.{growth_checks, lent_out, may_slide, reply_of, row_of}
pub use Rattle.heap_model.specs.MemorySteps.{text_of, unknown, where_it}
pub use Rattle.heap_model.specs.Packing.{SlidesOneStretch, packed}
pub use Rattle.heap_model.specs.Placing.{Finds, SameFrame}
pub use Rattle.heap_model.specs.Reading.{chunks_of, held}
pub use Rattle.heap_model.specs.Refusals.{Check, FirstBrings, NoneHolds, ◌brings◌}
pub use Rattle.heap_model.specs.Slots.{IsSlot, area_start, is_chained, slots_of, slots_total}
pub use Rattle.heap_model.specs.Slots.{tables_of}
pub use Rattle.heap_model.specs.Space.{FitsInPlace, MovesNothing, MovesOneStretch}
pub use Rattle.heap_model.specs.Space.{MovesOneStretchAnd, Short, ShortFor, Still, free_behind}
pub use Rattle.heap_model.specs.Space.{free_front, moved_bytes, place_of, place_under}
pub use Rattle.heap_model.specs.Store.{bytes_of, bytes_under, owner_of, owner_under}
pub use Rattle.heap_model.specs.declared.call.Reply.{Reply}
pub use Rattle.heap_model.specs.declared.names.Name.{Name}
pub use Rattle.heap_model.specs.declared.refusal.Refusal.{Refusal}
pub use Rattle.heap_compact.proofs.RelocateLaws.{found_held, one_placed}
pub use Rattle.heap_compact.specs.Resized.{Resized}
pub use Rattle.heap_place.proofs.FoundLaws.{bytes_inside, name_held, one_held, when_movable}
pub use Rattle.heap_place.proofs.LentLaws.{one_body_within}
pub use Rattle.heap_place.proofs.WalkLaws.{passed_all, passed_at, passed_more, passed_size}
pub use Rattle.heap_place.proofs.WalkLaws.{passed_start, passed_there}
pub use Rattle.heap_place.proofs.Words.{same_lents, same_lock}
pub use Rattle.heap_place.specs.Found.{CanGoTo, IsFound, IsOne, NothingAt}
pub use Rattle.heap_place.specs.Search.{Passed}
pub use Rattle.heap_place.specs.declared.found.Found.{Found}
pub use Rattle.laws_heap.proofs.AlteredChunks.{finds_place}
pub use Rattle.laws_heap.proofs.ChangedName.{held_updated}
pub use Rattle.laws_heap.proofs.ExchangedNames.{bytes_changes, freed_changes, lock_changes}
pub use Rattle.laws_heap.proofs.ExchangedNames.{owner_changes}
pub use Rattle.laws_heap.proofs.Exchanges.{ChangesName}
pub use Rattle.laws_heap.proofs.Fits.{fits_not_short_for, short_beyond}
pub use Rattle.laws_heap.proofs.FixedNames.{fixed_has_name, fixed_live_is, fixed_name, fixed_place}
pub use Rattle.laws_heap.proofs.FoundChunks.{callers_managers, callers_some, finds_body, finds_one}
pub use Rattle.laws_heap.proofs.FoundChunks.{finds_spelled, held_finds, named_size}
pub use Rattle.laws_heap.proofs.Frames.{length-overwritten, slice-of_slice}
pub use Rattle.laws_heap.proofs.KeptLoans.{keeps_itself, keeps_then, lent_as, live_nowhere}
pub use Rattle.laws_heap.proofs.KeptLoans.{unheld_here}
pub use Rattle.laws_heap.proofs.LentBodies.{apart, behind, in_front, lent_chunk, one, some_gives}
pub use Rattle.laws_heap.proofs.LentBodies.{some_none, some_to, walked_misses}
pub use Rattle.laws_heap.proofs.Meanings.{empty_unheld, held-is, held-zero}
pub use Rattle.laws_heap.proofs.OwnedChunks.{named_owned, not_directory, owned-merged, owned_held}
pub use Rattle.laws_heap.proofs.OwnedChunks.{owned_place}
pub use Rattle.laws_heap.proofs.SameLayouts.{frame_slots, frame_then}
pub use Rattle.laws_heap.proofs.SlidImages.{changes_move_nothing, moved_with, moves_then_nothing}
pub use Rattle.laws_heap.proofs.SlidImages.{nothing_moves_one, packed_alike, same_moved}
pub use Rattle.laws_heap.proofs.SlidImages.{slides_alike, slides_move_one, slot_unheld}
pub use Rattle.laws_heap.proofs.SlidImages.{unmoved_bytes}
pub use Rattle.laws_heap.proofs.Slots.{each_first_slot, every_first_slot, slot_alike, slot_stands}
pub use Rattle.laws_heap.proofs.Tests.{cond-false, cond-true}
pub use Rattle.laws_heap.proofs.Unmoved.{itself_alone, nothing_alone}
pub use Rattle.master_table.proofs.RowLaws.{starts_gained, starts_still}
pub use Rattle.master_table.proofs.TableLaws.{not_among-number, used_apart, used_fewer}
pub use Rattle.master_table.proofs.TableLaws.{used_more_slots, used_still}
pub use Rattle.master_table.specs.Table.{IsStart, NotAmong, UsedBefore}
pub use Rattle.master_table.specs.declared.slots.TableStart.{TableStart}
pub use Rattle.master_table.specs.declared.table.EmptySlot.{EmptySlot}
pub use Rattle.mem_manager.specs.Counting.{AreCounted}
pub use Rattle.mem_manager.specs.Known.{IsKnown, KnowsHeld, Remembers, entry_of_name}
pub use Rattle.mem_manager.specs.Loans.{IsNextLoan, IsOutUnder, OnLoan, PutsBack, TakesOut}
pub use Rattle.mem_manager.specs.Loans.{also_out_checks, out_checks}
pub use Rattle.mem_manager.specs.Lookup.{HasNoRoomFor, IsCallers, IsHere, IsManaged, IsMovable}
pub use Rattle.mem_manager.specs.Lookup.{IsNextEmpty, IsOpen, IsSlotOrNone, IsThere, MakesNew}
pub use Rattle.mem_manager.specs.Lookup.{StandsAs, checks_of_growth}
pub use Rattle.raw_region.specs.Marks.{BeginsAt, IsNextLent, NoneBeginsAbove}
pub use Rattle.raw_region.specs.Parts.{IsOut, IsPart, PartOut}
