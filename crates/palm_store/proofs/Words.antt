-- The words that most proofs of this crate cite, passed on from one place. Declares nothing.
pub use Rattle.database_edits.proofs.Chunks.{is_movable}
pub use Rattle.database_edits.proofs.Kept.{none_slid, slides_then, writes_then}
pub use Rattle.database_edits.specs.Edits.{HasNoRoomForEntry, counted, counted_if, entry_inserted, entry_moved, entry_removed, entry_written, with_block, with_moved}
pub use Rattle.database_edits.specs.Kept.{OnlySlides, OnlyWrites}
pub use Rattle.database_edits.specs.Recorded.{attributes_changed}
pub use Rattle.database_edits.specs.declared.opened.OpenDatabase.{OpenDatabase}
pub use Rattle.db_format.specs.EitherEntry.{entry_of}
pub use Rattle.db_format.specs.Headers.{IsHeaderOf, WritesHeader, header_values, info_told, with_header}
pub use Rattle.db_format.specs.declared.header.DbHeader.{DbHeader}
pub use Rattle.heap_model.specs.Bytes.{sized_to, u16_at, u32_at, u32_bytes}
unfoldable pub use Rattle.heap_model.specs.Bytes.{overwritten}
pub use Rattle.heap_model.specs.Chunk.{Chunk, Spelled, data_owner, fixed, fixed_lock, free, managers_owner, movable, need}
pub use Rattle.heap_model.specs.Counts.{IsSound, NamesData}
pub use Rattle.heap_model.specs.Database.{Database, DatabaseFits, DatabaseHeader, Entry, EntryFits, HasShape, IsDatabaseName, IsSpelled, a_record, a_resource, data_in, entry_bytes, entry_count_in, entry_data, entry_in, entry_offset, entry_with, has_resources, header_bytes, is_deleted, is_read_only, resources_in}
unfoldable pub use Rattle.heap_model.specs.Database.{database_in, header_in, spelled}
pub use Rattle.heap_model.specs.DatabaseFields.{app_info_at, attributes_at, entry_size, header_size, sort_info_at}
pub use Rattle.heap_model.specs.DatabaseSteps.{IsTaken, create_parts, create_slots, empty_database, header_set, info_block, info_block_of, info_block_set, info_block_taken, info_block_under, info_of, with_info_block}
pub use Rattle.heap_model.specs.EntrySteps.{HasId, LeavesStore, MakesNone, OfEntry, Tells, data_exchanged, data_freed, data_of_entry, data_under, deleted_bit, entries_in, entries_of, entry_attached, entry_changed, entry_dropped, entry_handed_over, entry_made, entry_swapped, entry_under, holds_resources, most_entries, raised, raised_header, record_told, replaced, replaced_if, resource_told, resources_under, with_attributes, with_chunks, with_entries, with_entry_at, without_data}
pub use Rattle.heap_model.specs.FileSteps.{listing_part, listing_slots, makings, whole_parts, whole_slots}
pub use Rattle.heap_model.specs.Heap.{HeapAccepted, IsCallersIfFixed, directory_of}
pub use Rattle.heap_model.specs.Leaving.{Leaves, NamesDirectory, Respells, SpellsHere, database_here, rewritten}
pub use Rattle.heap_model.specs.Lending.{IsLent, KeepsLoan}
pub use Rattle.heap_model.specs.Lists.{Distinct, insertion_index, moved, same, times, u32s_in}
pub use Rattle.heap_model.specs.Maps.{callers_map, changed, changed_at, gone, made, not_owned, put, reowned, sized, updated}
pub use Rattle.heap_model.specs.Meaning.{ChunkMap, LiveChunk, NamedHere}
pub use Rattle.heap_model.specs.Memory.{Memory, SomeLent}
pub use Rattle.heap_model.specs.MemorySteps.{Does, IsLocked, MemoryCall, Of, growth_checks, reply_of}
pub use Rattle.heap_model.specs.Reading.{chunks_of, held}
pub use Rattle.heap_model.specs.Refusals.{Check, FirstBrings, NoneHolds, ◌brings◌}
pub use Rattle.heap_model.specs.Rooms.{KeepsStretches, Lowers, Part, Stuck, grows, growth_part, makes, making, stretch_of}
pub use Rattle.heap_model.specs.Space.{MovesNothing, MovesOneStretchAnd, ShortFor, Still, free_behind, free_slots, place_of, place_under, rooms}
pub use Rattle.heap_model.specs.Store.{Accepted, HasUniqueIds, IsDatabase, IsHeaderSlot, IsInfoBlock, Store, StoredDatabase, bytes_of, database_under, most_databases, names_of, numbers_of, owner_of, unique_id, unique_ids}
unfoldable pub use Rattle.heap_model.specs.Store.{bytes_under, databases, directory_bytes, listed, owner_under, store_of}
pub use Rattle.heap_model.specs.StoreSteps.{Call, DoesInStore, StoreAsBefore, StoreStep}
pub use Rattle.heap_model.specs.StoreWords.{In, OfDatabase, SameStore, all_gone, with_changed, with_number}
pub use Rattle.heap_model.specs.declared.call.DatabaseCall.TheVariants.{Count, Create, Delete, Find, Info, InfoBlock, Nth, SetInfo}
pub use Rattle.heap_model.specs.declared.database.DbInfo.{DbInfo}
pub use Rattle.heap_model.specs.declared.names.Db.{Db}
pub use Rattle.heap_model.specs.declared.names.Name.{Name}
pub use Rattle.heap_model.specs.declared.names.Which.{Which}
pub use Rattle.heap_model.specs.declared.refusal.Refusal.{Refusal}
pub use Rattle.heap_model.specs.declared.refusal.Refusal.TheVariants.{AlreadyExists, ChunkFixed, ChunkLocked, InvalidHandle, InvalidName, Lent, NoInfoBlock, NoSuchDatabase, NotEnoughSpace, OwnedByDatabase, ReadOnly, TooManyEntries}
pub use Rattle.laws_heap.proofs.FoundChunks.{callers_managers, callers_some, finds_spelled, held_finds, read_heap}
pub use Rattle.laws_heap.proofs.Frames.{length-u32_bytes}
pub use Rattle.laws_heap.proofs.FreeCounts.{as_before}
pub use Rattle.laws_heap.proofs.KeptLoans.{keeps_itself, keeps_then, unheld_here}
pub use Rattle.laws_heap.proofs.Meanings.{held-zero}
pub use Rattle.laws_heap.proofs.Results.{if_err, on_err}
pub use Rattle.laws_heap.proofs.SameLayouts.{frame_then, same_frame}
pub use Rattle.laws_heap.proofs.Tests.{cond-false, cond-true, none_some, same_some}
pub use Rattle.laws_store.proofs.CallSteps.{asks, handed_on, kept_then, refused, same_store}
pub use Rattle.laws_store.proofs.ChangeSteps.{create_steps, drop_steps, has_store, number_once}
pub use Rattle.laws_store.proofs.Counts.{has_databases, header_slots, length-numbers, listed_numbers, same-is, same-least}
pub use Rattle.laws_store.proofs.DroppedDatabases.{closed_up, u32s_remove}
pub use Rattle.laws_store.proofs.Edited.{changed_or_kept, edited, exchanged_balance, gone_balance, hidden, made_balance, one_change, put_respells, shown}
pub use Rattle.laws_store.proofs.EditedStores.{callers_change, change_steps, each_one, edit_steps, made_edit, rename_steps, resize_steps, respell_steps, same_steps}
pub use Rattle.laws_store.proofs.Entries.{fresh_new, inserted_names, inserted_sound, moved_names, moved_sound, raised_sound, removed_names, removed_sound, replaced_is, replaced_kept, replaced_names, replaced_own, seeded_name}
pub use Rattle.laws_store.proofs.Found.{changed_by_number, changed_twice, found_stands}
pub use Rattle.laws_store.proofs.KeptDatabases.{bytes_like, directory_like, number_owner}
pub use Rattle.laws_store.proofs.NameCounts.{named-remove, times-ids}
unfoldable pub use Rattle.laws_store.proofs.NameCounts.{has_id}
pub use Rattle.laws_store.proofs.NewDatabases.{made_then_none, managers_loose, slots_made, u32s_push}
pub use Rattle.laws_store.proofs.Numbered.{accepted_sound, accepted_spells, data_here, entries_here, entry_fits, entry_here, entry_names, entry_owner, in_here, in_store, kind_here, number_database, number_held, number_here, number_slot, number_some, number_spelled}
pub use Rattle.laws_store.proofs.Owners.{directory_owner, owned_slot, owned_some}
pub use Rattle.laws_store.proofs.Parts.{made_then_short, one_grown}
pub use Rattle.laws_store.proofs.RewrittenDatabases.{get-any, number_at}
pub use Rattle.laws_store.proofs.Shapes.{offset_below, spelled_shape}
pub use Rattle.laws_store.proofs.Spellings.{length-entries, length-entry_bytes, length-header_bytes}
pub use Rattle.laws_store.proofs.Times.{all-times, contained-times, map-All, same-no, same-yes, times-append, times-cons, times-contained, times-some}
pub use Rattle.laws_store.specs.Changes.{Appends, Change, Clears, Drops, HasStore, IsCallersChange}
pub use Rattle.laws_store.specs.Entries.{HasNewId, HasOwnId}
pub use Rattle.mem_manager.proofs.StoreCalls.{all_written, lock_viewed, stands_still}
pub use Rattle.mem_manager.specs.Loans.{AreLoansAbove, IsOutUnder, OnLoan}
pub use Rattle.mem_manager.specs.Lookup.{Found, IsHere, IsMovable, MakesNew, StandsAs}
pub use Rattle.palm_store.specs.Checks.{IsNamed, IsOfKind, IsTold, are_resources}
pub use Rattle.palm_store.specs.Databases.{HasDatabase, HasNumber, HasOtherName, IsListedAt, name_under, named_under}
pub use Rattle.palm_store.specs.Directory.{HasNoRoomToList, ListsLast, ListsNew, Unlists}
pub use Rattle.palm_store.specs.EntryCalls.{HasLockedData, IsEntryData, MayBeGiven, checks_of_attaching, checks_of_data_growth, checks_of_giving, checks_of_making, data_sized, entry_given, raised_if}
pub use Rattle.palm_store.specs.EntryInfos.{CanHave, EntryInfo, HasFittingInfo, IsMadeOf, MayOwn, NewEntry, dropped_to, makes_resource, with_info}
pub use Rattle.palm_store.specs.Files.{HasDataOf, IsDataName, data_filled}
pub use Rattle.palm_store.specs.KnownIds.{GetsNone, IsStore, StandFree, StandFreeBeside, ids_in}
pub use Rattle.palm_store.specs.Loans.{PutsBackInStore, TakesOutOfStore}
pub use Rattle.palm_store.specs.NewEntries.{PutsIn, TakesIn}
pub use Rattle.palm_store.specs.Opened.{IsOpened}
pub use Rattle.palm_store.specs.WholeDatabases.{AreOwnChunks, CanBeWhole, CanCome, GainsZeros, IsGained, ListsWhole, MakesAll, MakesAndLists, MakesWhole, RunsOut, Spends, WholeEntry, checks_of_whole, data_sizes, entries_named, entry_named, header_asked, id_asked, numbers_in, size_of_data, whole_database, whole_size}
pub use Rattle.palm_store.specs.declared.databases.whole.BlockSizes.{BlockSizes}
pub use Rattle.palm_store.specs.declared.entries.known.KnownIds.{KnownIds}
pub use Rattle.std.proofs.Common.{Bool, List, None, Option, Result, Some, [], ap, append_assoc, arith, below_more, drop, false, get_or, inl, inr, length, length-append, length-drop, length-take, map, refl, replicate, rules, set, subst, suc, sym, take, true, zero, ℕ, ◌*◌, ◌++◌, ◌+◌, ◌-◌, ◌/◌, ◌<◌, ◌^◌, ◌∙◌, ◌∷◌, ◌≡◌, ◌≢◌, ◌≤◌}
pub use Rattle.std.proofs.Math.Seq.{take-append_seam, take-nil}
pub use Rattle.std.proofs.lemmas.Bool.{both_ways, cases_eq, cases_lt, eq-eqb, ne_eqb}
pub use Rattle.std.proofs.lemmas.Grind.{flat_map-append, get_or_default_zero}
pub use Rattle.std.proofs.lemmas.List.{append-nil, drop-drop, drop_all, drop_at, get_or-drop, get_or-map, length-map, length-replicate, length-set, map-append, set-get_or, take-append-drop, take-map, take_all, take_more, take_more_set}
pub use Rattle.std.proofs.lemmas.List.Elements.{All-append, All-cons, All-head, All-map, All-nil, All-tail}
pub use Rattle.std.proofs.lemmas.List.FromFn.{get_or-map-range_with_len, length-map-range_with_len}
pub use Rattle.std.proofs.lemmas.List.Sums.{count_by_more_no, count_by_more_yes, get_or-le-sum_by, sum_by-insert, sum_by-remove, sum_by-set}
pub use Rattle.std.proofs.lemmas.Option.{get_or_from_slice_get, slice_get-get_or, slice_get_within}
pub use Rattle.std.specs.List.{AllZip, filter_map, find, flat_map, insert_slice, remove}
pub use Rattle.std.specs.Option.{is_some, ok_or}
pub use Rattle.std.specs.Prelude.{All, Any, Err, IfErr, IfNone, IfOk, IfSome, IsOk, IsSome, IsTrue, Ok, OnErr, OnOk, bit_or, count_by, if◌then◌else◌, slice_get, slice_range, slice_set, ◌==◌, ◌↔◌, ◌⊎◌}
