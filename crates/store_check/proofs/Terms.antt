-- The words that most proofs of this crate cite, passed on from one place.
pub use Rattle.bit_sets.specs.Sets.{AddsNumber, HasNone, IsInSet}
pub use Rattle.heap_check.specs.Faults.{FirstBrought}
pub use Rattle.heap_check.specs.Owners.{HasOwners, marked_word, marks_needed}
pub use Rattle.heap_model.specs.Bytes.{AreBytes, u32_at}
pub use Rattle.heap_model.specs.Chunk.{Chunk, HasChunk, data_owner, managers_owner, movable}
unfoldable pub use Rattle.heap_model.specs.Database.{database_in, header_in}
pub use Rattle.heap_model.specs.Database.{Entry, HasName, HasShape, a_record, a_resource, data_in, entry_count_in, entry_data, entry_in, entry_offset, is_deleted, name_field, name_in, resources_in}
pub use Rattle.heap_model.specs.Heap.{HeapAccepted, directory_of}
pub use Rattle.heap_model.specs.Lists.{Distinct, Least, LeastPair, numbered, same, times}
pub use Rattle.heap_model.specs.Slots.{IsSlot, is_chained, is_slot, slot_count}
unfoldable pub use Rattle.heap_model.specs.Store.{bytes_under, databases, directory_bytes, listed, named, owner_under}
pub use Rattle.heap_model.specs.Store.{Accepted, HasData, HasUniqueIds, IsDatabase, IsHeaderSlot, IsInfoBlock, StoredDatabase, bytes_of, database_under, most_databases, named_by, names_of, owner_of, unique_ids}
pub use Rattle.laws_heap.proofs.Results.{if_err}
pub use Rattle.laws_heap.proofs.Slots.{Decides-slot, slot_facts, slot_stands, stands_below, tiled_table, whole_table}
pub use Rattle.laws_heap.proofs.Tests.{cond-true, true_or_false}
pub use Rattle.laws_store.proofs.Numbers.{numbered_more}
pub use Rattle.laws_store.proofs.Owners.{directory_owner, owned_slot, owned_some}
pub use Rattle.laws_store.proofs.Times.{All-flat_map, all-times, contained-times, distinct-times, no_least, no_least_pair, same-no, same-yes, times-append, times-cons, times-contained, times-some}
pub use Rattle.std.proofs.Common.{Bool, IsTrue, List, MatchOption, None, Option, Some, [], ap, append_assoc, arith, false, get_or, get_or-take, inl, inr, length, length-take-le, lit<, map, refl, set, subst, suc, sym, take, true, zero, ℕ, ◌%◌, ◌*◌, ◌++◌, ◌+◌, ◌-◌, ◌/◌, ◌<◌, ◌^◌, ◌∙◌, ◌∷◌, ◌≡◌, ◌≢◌, ◌≤◌}
pub use Rattle.std.proofs.lemmas.Bool.{cases_eq, cases_lt, false≢true}
pub use Rattle.std.proofs.lemmas.Bool.Decides.{Decides-and, Decides-eqb, Decides-like, Decides-or, nat_tests}
pub use Rattle.std.proofs.lemmas.List.{append-nil, get_or-map, get_or-set_other, get_or-set_same, length-map, length-set, map-append}
pub use Rattle.std.proofs.lemmas.Option.{get_or_from_slice_get, slice_get-get_or, slice_get_within}
pub use Rattle.std.proofs.lemmas.Result.{IfErr-at_err}
pub use Rattle.std.proofs.lemmas.Slice.Eq.{bytes_eq-Decides, slice_eq-Decides}
pub use Rattle.std.specs.List.{Contains, flat_map}
pub use Rattle.std.specs.Prelude.{All, IfNone, IsSome, slice_index, slice_range, ◌&&◌, ◌==◌, ◌||◌, ◌↔◌, ◌⊎◌}
pub use Rattle.store_check.specs.Checks.{IsAnswered, IsFirstOr, IsRefusal, chunk_faults, listed_faults, marked_faults, own_faults}
pub use Rattle.store_check.specs.Faults.{HasBadEntry, HasBadId, HasDatabaseHeader, HasGoodEntries, IsBadEntry, IsBadHeader, IsBadId, IsBadName, IsBadSlot, IsSameName, IsShared, IsStray, NoneBrought, directory_faults, entry_faults, header_faults, id_at, same_name_faults, shared_faults, store_faults, stray_faults}
pub use Rattle.store_check.specs.Ids.{HasIdsBefore, HasIdsUpTo, HasIdsWithin, HasRoomForAll, HasRoomForIds}
unfoldable pub use Rattle.store_check.specs.Listing.{header_at}
pub use Rattle.store_check.specs.Listing.{AreListed, IsGoodDirectory, NotesListed, entries_spelled, listed_at, listed_count}
pub use Rattle.store_check.specs.Lookup.{HasBody, body_if_movable}
pub use Rattle.store_check.specs.Names.{HasNamesBefore, HaveNames, field_number, name_number}
pub use Rattle.store_check.specs.Naming.{AddsMarks, AreEnoughMarks, AreMarks, AreNamed, HasMark, IsMarkedTwice, IsUnmarked, accounted, met}
pub use Rattle.store_check.specs.Owners.{IsOurOwner, IsOurs, TellsOwner}
pub use Rattle.store_check.specs.declared.fault.StoreFault.TheVariants.{BadDirectorySlot, BadHeader, OutOfMemory, SharedChunk, StrayChunk}
pub use Rattle.store_check.specs.declared.lookup.Body.{Body}
