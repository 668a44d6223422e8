-- The words that most proofs of this crate cite, passed on from one place. Declares nothing.
pub use Rattle.palm_store.proofs.Words.{Accepted, Bool, ChunkLocked, Database, Db, DoesInStore, Entry, FirstBrings, HasLockedData, IfNone, IfSome, IsSome, IsTold, LeavesStore, List, Memory, None, NoneHolds, OfEntry, Option, Refusal, Result, Some, [], a_record, a_resource, ap, arith, asks, checks_of_attaching, checks_of_data_growth, checks_of_making, count_by, data_of_entry, data_sized, data_under, entries_in, entry_attached, entry_dropped, entry_under, handed_on, inl, inr, length, raised, refl, refused, same_store, slice_get, store_of, subst, sym, true, ℕ, ◌+◌, ◌<◌, ◌∙◌, ◌≡◌, ◌≤◌}
pub use Rattle.heap_model.specs.EntrySteps.{IsResourceInfoOf}
pub use Rattle.heap_model.specs.ResourceSteps.{HasTypeAndId, has_type, with_type_and_id}
pub use Rattle.heap_model.specs.Store.{HasData}
pub use Rattle.heap_model.specs.declared.call.Reply.TheVariants.{Done, Number, Refused}
pub use Rattle.heap_model.specs.declared.call.ResourceCall.TheVariants.{Attach, FindType, New, Remove, Resize, SetInfo}
pub use Rattle.heap_model.specs.declared.refusal.Refusal.TheVariants.{ResourceNotFound}
pub use Rattle.laws_store.proofs.CallSteps.{changes}
pub use Rattle.palm_store.proofs.OpenedEntries.{as_resource_told, data_named, entry_is, here, of_all, resources_told}
pub use Rattle.palm_store.proofs.SearchLaws.{NoneUntil, counted_more, counted_same, entries_read}
pub use Rattle.palm_store.specs.Checks.{IsLockedChunk, opening_checks}
pub use Rattle.palm_store.specs.EntryCalls.{LeavesAttached, LeavesChanged}
pub use Rattle.palm_store.specs.Replies.{made_reply, number_or_refused}
pub use Rattle.std.proofs.Common.{cond}
pub use Rattle.std.proofs.lemmas.Bool.{iff_false}
pub use Rattle.std.specs.Prelude.{is_some, take}
