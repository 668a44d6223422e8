-- The words that most proofs of this crate cite, passed on from one place. Declares nothing.
pub use Rattle.palm_store.proofs.Words.{Accepted, Bool, CanHave, ChunkLocked, ChunkMap, Database, Db, DoesInStore, Entry, FirstBrings, HasId, HasLockedData, IfNone, IfSome, IsLocked, IsNamed, IsSome, IsTold, IsTrue, LeavesStore, List, LiveChunk, MakesNone, Memory, None, NoneHolds, Of, OfEntry, Option, Refusal, SameStore, Some, Store, StoredDatabase, [], a_record, a_resource, all-times, all_gone, ap, append-nil, arith, callers_map, cases_eq, cases_lt, checks_of_attaching, checks_of_data_growth, checks_of_making, cond-false, cond-true, data_exchanged, data_freed, data_of_entry, data_sized, data_under, drop, drop_all, entries_in, entries_of, entry_changed, entry_data, entry_dropped, entry_swapped, entry_under, entry_with, eq-eqb, false, filter_map, find, get_or, gone, handed_on, holds_resources, if◌then◌else◌, inl, inr, is_deleted, length, map, map-append, ne_eqb, none_some, not_owned, raised, raised_if, refl, refused, replaced, replaced_if, resources_under, same-no, same-yes, same_some, slice_get, subst, suc, sym, take, take_all, times, times-cons, true, unique_id, unique_ids, with_attributes, with_changed, with_chunks, with_entries, with_info, with_number, without_data, zero, ℕ, ◌*◌, ◌++◌, ◌+◌, ◌-◌, ◌<◌, ◌==◌, ◌^◌, ◌↔◌, ◌∙◌, ◌∷◌, ◌≡◌, ◌≢◌, ◌≤◌, ◌⊎◌}
unfoldable pub use Rattle.palm_store.proofs.Words.{store_of}
pub use Rattle.heap_model.specs.Categories.{IsOf, all_categories, category_of, data_of_category, deleted_category, dirty_bit, has_category, is_of, moved_category, recategorized, with_category}
pub use Rattle.heap_model.specs.EntrySteps.{HasOther, IsInfoOf, IsNameOf}
pub use Rattle.heap_model.specs.RecordSteps.{HasAttributes, HasLockedOf, attributes_set, busy_bit, category_deleted, id_in, id_set, is_busy, released, with_record_info}
pub use Rattle.heap_model.specs.Store.{HasData}
pub use Rattle.heap_model.specs.declared.call.RecordCall.TheVariants.{Attach, AttachReplacing, DeleteCategory, Get, MoveCategory, New, Release, Remove, Resize, SetInfo}
pub use Rattle.heap_model.specs.declared.call.Reply.TheVariants.{Done, Named, Number, Refused}
pub use Rattle.heap_model.specs.declared.refusal.Refusal.TheVariants.{RecordBusy}
pub use Rattle.laws_store.proofs.CallSteps.{changes}
pub use Rattle.laws_store.proofs.Times.{distinct-times}
pub use Rattle.palm_store.proofs.EntriesChanged.{changed_alike, changed_behind, changed_nothing, entry_alike, entry_kept, found_changed, set_as, with_list}
pub use Rattle.palm_store.proofs.OpenedEntries.{Here, as_record_told, data_named, entry_is, fits, here, of_all, records_told}
pub use Rattle.palm_store.proofs.Rests.{none_slid, slides_then, writes_then}
pub use Rattle.palm_store.proofs.SearchLaws.{NoneUntil, counted_more, counted_same, entries_read, found_or_none, kind_read, number_read}
pub use Rattle.palm_store.proofs.TwoChanges.{itself, left_after, left_as, nothing_moved, one_stretch_moved, raised_after}
pub use Rattle.palm_store.specs.EntryCalls.{LeavesChanged, OnlyWrites}
pub use Rattle.palm_store.specs.Search.{IsFirst, NoneBehind, SomeHas}
pub use Rattle.std.proofs.Common.{bit_and, bit_or, count_by}
pub use Rattle.std.proofs.lemmas.Bool.{both_ways, iff_false}
pub use Rattle.std.proofs.lemmas.List.{append_assoc}
pub use Rattle.std.specs.Prelude.{IsSomeAnd, filter, is_some, max, min, not, ◌%◌, ◌&&◌, ◌||◌}
