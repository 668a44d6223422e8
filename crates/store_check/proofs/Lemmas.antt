-- The lemmas of this crate that proofs of functions cite, passed on from one place.
pub use Rattle.store_check.proofs.CheckLaws.{first_after, first_before, first_refused, listed_cut, listed_length, marked_first, marked_not_memory, none_accepted, none_both, own_first, own_not_memory, store_first}
pub use Rattle.store_check.proofs.LookupLaws.{body_found, header_bytes, held_chunk, is_some_matched, managers_held, matched_value}
pub use Rattle.store_check.proofs.MarkLaws.{marked_told, same_marks}
pub use Rattle.store_check.proofs.NameLaws.{names_more, same_fields, same_none}
pub use Rattle.store_check.proofs.PassLaws.{entries_passed, entry_first, header_first, header_good, headers_more, headers_noted, none_more}
pub use Rattle.store_check.proofs.SlotLaws.{slot_first, slots_marked, slots_more, word_bad}
pub use Rattle.store_check.proofs.SlotWords.{slot_marked}
pub use Rattle.store_check.proofs.UseLaws.{data_all, entries_all, entries_more, named_all, named_below, named_more}
pub use Rattle.store_check.proofs.Terms.{Accepted, AddsMarks, AreEnoughMarks, AreMarks, Decides-eqb, FirstBrought, HasBadEntry, HasData, HasGoodEntries, IfErr-at_err, IsAnswered, IsBadEntry, IsFirstOr, List, OutOfMemory, [], ap, append-nil, arith, chunk_faults, data_in, database_in, directory_of, entry_data, entry_in, false≢true, if_err, inl, inr, length, listed_at, listed_faults, map, marked_faults, met, name_number, nat_tests, numbered, own_faults, owned_slot, refl, shared_faults, slice_eq-Decides, store_faults, stray_faults, subst, sym, take, tiled_table, u32_at, whole_table, ℕ, ◌*◌, ◌++◌, ◌<◌, ◌∙◌, ◌∷◌, ◌≡◌, ◌⊎◌}
