-- The words that several proof files of this crate use, under one path.
pub use Rattle.std.proofs.Common.{Bool, Err, List, None, Ok, Option, Result, Some, [], ap}
pub use Rattle.std.proofs.Common.{append_assoc, arith, cond, drop, drop-cons, false, get_or, inl}
pub use Rattle.std.proofs.Common.{inr, length, length-append, length-drop, length-take, map, refl}
pub use Rattle.std.proofs.Common.{replicate, rules, set, subst, suc, sym, take, true, zero, ℕ, ◌%◌}
pub use Rattle.std.proofs.Common.{◌*◌, ◌++◌, ◌+◌, ◌-◌, ◌/◌, ◌<◌, ◌^◌, ◌∙◌, ◌∷◌, ◌≡◌, ◌≢◌, ◌≤◌}
pub use Rattle.std.proofs.Math.Seq.{drop-append-add, drop-append_seam, set-append_seam}
pub use Rattle.std.proofs.Math.Seq.{take-append-add, take-append_seam}
pub use Rattle.std.proofs.lemmas.Bool.{cases_eq, cases_lt, cases_order, eq-eqb, le-ltb, lt-ltb}
pub use Rattle.std.proofs.lemmas.Bool.{ne_eqb}
pub use Rattle.std.proofs.lemmas.Grind.{flat_map-append}
pub use Rattle.std.proofs.lemmas.List.{append-nil, drop-drop, drop_at, get_or-append_right}
pub use Rattle.std.proofs.lemmas.List.{get_or-drop, get_or-map, get_or-set_other, get_or-set_same}
pub use Rattle.std.proofs.lemmas.List.{get_or-take, get_or_append_left, get_or_past, length-map}
pub use Rattle.std.proofs.lemmas.List.{length-replicate, length-set, map-append, map-set}
pub use Rattle.std.proofs.lemmas.List.{take-append-drop, take-replicate, take-take, take_all}
pub use Rattle.std.proofs.lemmas.List.{take_at}
pub use Rattle.std.proofs.lemmas.List.Edits.{get_or-remove_above, get_or-remove_below}
pub use Rattle.std.proofs.lemmas.List.Edits.{length-insert, length-remove}
pub use Rattle.std.proofs.lemmas.List.Elements.{All-append, All-cons, All-contains, All-drop}
pub use Rattle.std.proofs.lemmas.List.Elements.{All-filter, All-get_or, All-head, All-map, All-nil}
pub use Rattle.std.proofs.lemmas.List.Elements.{All-push, All-set, All-tail, All-take, All-weaker}
pub use Rattle.std.proofs.lemmas.List.Elements.{Contains-from_at, at_from_Contains}
pub use Rattle.std.proofs.lemmas.List.Elements.{filter_map-append}
pub use Rattle.std.proofs.lemmas.List.FromFn.{fill_by_all, get_or-map-range_with_len}
pub use Rattle.std.proofs.lemmas.List.FromFn.{length-map-range_with_len, map-range_with_len_more}
pub use Rattle.std.proofs.lemmas.List.Kept.{AllPairs-cons}
pub use Rattle.std.proofs.lemmas.List.Sums.{get_or-le-sum_by, position_or_len_is, sum_by-append}
pub use Rattle.std.proofs.lemmas.List.Sums.{sum_by-cons, sum_by-insert, sum_by-remove, sum_by-set}
pub use Rattle.std.proofs.lemmas.List.Sums.{sum_by_push, take_while-cons}
pub use Rattle.std.proofs.lemmas.Option.{get_or_from_slice_get, slice_get-get_or, slice_get_within}
pub use Rattle.std.specs.Bool.{Decides, OnTrue}
pub use Rattle.std.specs.List.{AllZip, Contains, concat, filter_map, find, flat_map, insert_slice}
pub use Rattle.std.specs.List.{list_all, list_any, position_or_len, range_with_len, remove, sum_by}
pub use Rattle.std.specs.List.{take_while}
pub use Rattle.std.specs.Option.{is_none}
pub use Rattle.std.specs.Prelude.{All, IsErr, IsErrAnd, IsSome, count_by, if◌then◌else◌, insert}
pub use Rattle.std.specs.Prelude.{is_some, nat_lt, not, slice_get, slice_range, ◌==◌, ◌||◌, ◌↔◌}
pub use Rattle.std.specs.Prelude.{◌⊎◌}
pub use Rattle.heap_model.specs.Bytes.{AreBytes, sized_to}
unfoldable pub use Rattle.heap_model.specs.Bytes.{overwritten, u16_at, u16_bytes, u24_at, u24_bytes}
unfoldable pub use Rattle.heap_model.specs.Bytes.{u32_at, u32_bytes}
pub use Rattle.heap_model.specs.Chunk.{Chunk, Spelled, data_owner, fixed, fixed_lock, free}
pub use Rattle.heap_model.specs.Chunk.{managers_owner, movable, need, total}
pub use Rattle.heap_model.specs.Counts.{HasDatabases, IsSound, IsWhole, NamesData}
pub use Rattle.heap_model.specs.Database.{Database, DatabaseFits, DatabaseHeader, Entry, EntryFits}
pub use Rattle.heap_model.specs.Database.{HasShape, HeaderFits, IsDatabaseName, IsSpelled, a_record}
pub use Rattle.heap_model.specs.Database.{a_resource, data_in, entry_at, entry_count_in, entry_data}
pub use Rattle.heap_model.specs.Database.{entry_in, entry_offset, fields_behind_name, has_resources}
pub use Rattle.heap_model.specs.Database.{is_deleted, resources_in}
unfoldable pub use Rattle.heap_model.specs.Database.{database_in, entry_bytes, header_bytes}
unfoldable pub use Rattle.heap_model.specs.Database.{header_in, name_field, name_in, spelled}
pub use Rattle.heap_model.specs.DatabaseFields.{entry_size}
pub use Rattle.heap_model.specs.DatabaseSteps.{IsTaken, named_in}
pub use Rattle.heap_model.specs.EntrySteps.{KeepsLocks, LeavesStore, OfEntry, data_of_entry}
pub use Rattle.heap_model.specs.EntrySteps.{data_under, entries_in, entries_of, entry_made}
pub use Rattle.heap_model.specs.EntrySteps.{entry_under, holds_resources, most_entries}
pub use Rattle.heap_model.specs.EntrySteps.{raised_header, replaced, replaced_if, resources_under}
pub use Rattle.heap_model.specs.EntrySteps.{seeded_by, with_chunks, with_entry_at}
pub use Rattle.heap_model.specs.Heap.{BodyHere, HeapAccepted, IsCallersIfFixed, ManagersHere}
pub use Rattle.heap_model.specs.Heap.{directory_of}
pub use Rattle.heap_model.specs.Leaving.{Leaves, Respells, SpellsHere, database_here, rewritten}
pub use Rattle.heap_model.specs.Lists.{Distinct, Least, LeastPair, insertion_index, moved, numbered}
pub use Rattle.heap_model.specs.Lists.{same, times, u32s_in}
pub use Rattle.heap_model.specs.Maps.{callers_map, changed, changed_at, made, not_owned, put, sized}
pub use Rattle.heap_model.specs.Maps.{updated, without_owner}
pub use Rattle.heap_model.specs.Meaning.{ChunkMap, LiveChunk, NamedHere}
pub use Rattle.heap_model.specs.Memory.{Memory}
pub use Rattle.heap_model.specs.MemorySteps.{AsBefore, Does, IsNoCaller, MemoryCall, Of, reply_of}
pub use Rattle.heap_model.specs.MemorySteps.{row_of, text_of}
pub use Rattle.heap_model.specs.Placed.{AnyPlaced, EveryOne}
pub use Rattle.heap_model.specs.Reading.{chunks_of, held, is_fixed_name, live_under}
pub use Rattle.heap_model.specs.Refusals.{FirstBrings, NoneHolds}
pub use Rattle.heap_model.specs.Rooms.{KeepsStretches, Lowers, Part, Stuck, grows, growth_part}
pub use Rattle.heap_model.specs.Rooms.{is_movable_as, makes, rooms_for, stretch_of}
pub use Rattle.heap_model.specs.Slots.{IsSlot, Tables, area_start, slots_of, tables_of}
pub use Rattle.heap_model.specs.Space.{NoneStays, Short, ShortFor, free_slots, has_chunk}
pub use Rattle.heap_model.specs.Space.{onto_first, room_of, rooms, rooms_of, runs_between}
pub use Rattle.heap_model.specs.Space.{stays_put, stretches, with_freed}
pub use Rattle.heap_model.specs.Steps.{Row, StepBy, becomes_named}
pub use Rattle.heap_model.specs.Store.{Accepted, HasData, HasUniqueIds, IsDatabase, IsHeaderSlot}
pub use Rattle.heap_model.specs.Store.{IsInfoBlock, Means, SpelledUnder, Store, StoredDatabase}
pub use Rattle.heap_model.specs.Store.{bytes_of, database_under, most_databases, named_by, names_of}
pub use Rattle.heap_model.specs.Store.{numbers_of, owner_of, unique_id, unique_ids}
unfoldable pub use Rattle.heap_model.specs.Store.{bytes_under, databases, directory_bytes, listed}
unfoldable pub use Rattle.heap_model.specs.Store.{named, owner_under, store_of}
pub use Rattle.heap_model.specs.StoreSteps.{Call, DoesInStore, LeavesTables, StoreStep, lifted}
pub use Rattle.heap_model.specs.StoreSteps.{may_slide_bytes}
pub use Rattle.heap_model.specs.StoreWords.{In, OfDatabase, SameStore, all_gone, changed_if}
pub use Rattle.heap_model.specs.StoreWords.{with_changed, with_number, without_database}
pub use Rattle.heap_model.specs.UniqueIds.{IsFresh, id_behind, next_id, seed_in}
pub use Rattle.heap_model.specs.declared.call.Reply.{Reply}
pub use Rattle.heap_model.specs.declared.names.Db.{Db}
pub use Rattle.byteorder.specs.Endian.{big_bytes, big_from}
pub use Rattle.byteorder.specs.Numbers.{big_from-cons, big_from-lt, big_from-take}
pub use Rattle.byteorder.specs.Numbers.{big_number-reads_back, length-bytes_high_first}
pub use Rattle.laws_heap.proofs.AlteredChunks.{finds_callers}
pub use Rattle.laws_heap.proofs.CallFrames.{KeepsHead, frames_head, frames_tables}
pub use Rattle.laws_heap.proofs.FixedNames.{fixed_live_is}
pub use Rattle.laws_heap.proofs.FoundChunks.{finds_body, finds_held, finds_spelled, held_finds}
pub use Rattle.laws_heap.proofs.FoundChunks.{read_heap}
pub use Rattle.laws_heap.proofs.Meanings.{heap_holds, held-zero, holds_one}
pub use Rattle.laws_heap.proofs.Placed.{AnyPlaced-mid, AnyPlaced-parts, Decides-every_one}
pub use Rattle.laws_heap.proofs.Tests.{Decides-nat_le, cond-false, cond-true, none_some, same_some}
pub use Rattle.laws_store.specs.Changes.{Appends, Change, Clears, Drops, Edits, HasStore}
pub use Rattle.laws_store.specs.Changes.{IsCallersChange, KeepsManagers, Rewrites, all_updated}
pub use Rattle.laws_store.specs.Entries.{HasNewId, HasOwnId}
