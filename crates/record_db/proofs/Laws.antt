-- The lemmas of this crate that proofs of its functions cite, passed on from one place. Declares nothing.
pub use Rattle.record_db.proofs.Bits.{released_deleted, set_deleted}
pub use Rattle.record_db.proofs.CategoryTurns.{DeletedTo, deleted_all, deleted_next, deleted_none, first_inside, kind_there, next_unlocked, passed_to, within_some}
pub use Rattle.record_db.proofs.Entries.{info_is, no_data}
pub use Rattle.record_db.proofs.SetAttributes.{attributes_set, data_swapped, may_have, may_have_id, no_other}
pub use Rattle.record_db.proofs.Words.{AttachReplacing, CanHave, Done, HasId, MakesNone, Named, OnlyWrites, Option, Release, SetInfo, SomeHas, StoredDatabase, a_record, ap, arith, bit_or, changes, data_of_entry, dirty_bit, entries_in, entries_of, entry_under, false, here, id_set, inl, inr, is_deleted, length, refl, released, resources_under, set_as, store_of, subst, sym, true, with_info, with_record_info, writes_then, ℕ, ◌-◌, ◌∙◌, ◌≡◌, ◌≤◌, ◌⊎◌}
