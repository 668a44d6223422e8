-- The words that most proofs of this crate cite, passed on from one place. Declares nothing.
pub use Rattle.database_edits.specs.Edits.{HasKindHere, HasNoRoomForEntry, counted, counted_if, entry_inserted, entry_moved, entry_removed, entry_written, with_block, with_moved}
pub use Rattle.database_edits.specs.Managers.{HasHeaderOf, IsManagers, PutsHeader, Rebodies}
pub use Rattle.database_edits.specs.Recorded.{attributes_changed}
pub use Rattle.db_format.proofs.FieldLaws.{header_over, over_piece}
pub use Rattle.db_format.specs.EitherEntry.{entry_of, is_resource}
pub use Rattle.db_format.specs.Entries.{WritesEntry, with_entry}
pub use Rattle.db_format.specs.Headers.{HasEntryCount, HasInfoBlock, HasModificationNumber, HasSeed, WritesField, info_block_at}
pub use Rattle.db_format.specs.declared.db_entry.DbEntry.{DbEntry}
pub use Rattle.heap_model.specs.Bytes.{sized_to}
unfoldable pub use Rattle.heap_model.specs.Bytes.{overwritten, u16_bytes, u24_bytes, u32_at, u32_bytes}
pub use Rattle.heap_model.specs.Chunk.{managers_owner, need}
pub use Rattle.heap_model.specs.Database.{Database, DatabaseFits, DatabaseHeader, Entry, EntryFits, HasShape, IsDatabaseName, IsSpelled, a_record, a_resource, entry_in, entry_offset, has_resources, resources_in}
unfoldable pub use Rattle.heap_model.specs.Database.{database_in, entry_bytes, header_bytes, header_in, spelled}
pub use Rattle.heap_model.specs.DatabaseFields.{entry_size, header_size}
pub use Rattle.heap_model.specs.EntrySteps.{seeded_by, with_attributes, with_entry_at}
pub use Rattle.heap_model.specs.Leaving.{Leaves, Respells, SpellsHere, database_here, rewritten}
pub use Rattle.heap_model.specs.Lists.{insertion_index, moved}
pub use Rattle.heap_model.specs.Maps.{changed, changed_at, put, sized, updated}
pub use Rattle.heap_model.specs.Meaning.{ChunkMap, LiveChunk}
pub use Rattle.heap_model.specs.Memory.{Memory}
pub use Rattle.heap_model.specs.Reading.{held}
pub use Rattle.heap_model.specs.Space.{ShortFor, free_behind}
pub use Rattle.heap_model.specs.Store.{bytes_of, owner_of}
unfoldable pub use Rattle.heap_model.specs.Store.{bytes_under, owner_under}
pub use Rattle.heap_model.specs.StoreWords.{next_modification}
pub use Rattle.laws_heap.proofs.Frames.{length-overwritten}
pub use Rattle.laws_store.proofs.Edits.{spelled_header, spelled_insert, spelled_remove}
pub use Rattle.laws_store.proofs.MovedElements.{insertion_before, insertion_behind, length-moved, moved_is}
pub use Rattle.laws_store.proofs.Spellings.{database_read, entry_read, length-entries, length-entry_bytes, length-header_bytes, length-spelled, resources_read}
pub use Rattle.mem_manager.specs.Lookup.{IsHere, IsMovable, StandsAs}
unfoldable pub use Rattle.raw_region.specs.ByteChanges.{changed_every}
pub use Rattle.std.proofs.Common.{Bool, List, None, Option, Some, [], ap, append_assoc, arith, drop, false, get_or, inl, inr, length, length-append, length-drop, length-take, map, refl, replicate, subst, suc, sym, take, true, ℕ, ◌*◌, ◌++◌, ◌+◌, ◌-◌, ◌<◌, ◌^◌, ◌∙◌, ◌∷◌, ◌≡◌, ◌≢◌, ◌≤◌}
pub use Rattle.std.proofs.Math.Seq.{drop-append-add, drop-append_seam, get_or-append_right, take-append_seam}
pub use Rattle.std.proofs.lemmas.Bool.{cases_eq, cases_lt, eq-eqb, ne_eqb}
pub use Rattle.std.proofs.lemmas.List.{append-nil, drop-drop, length-map, length-replicate, drop_at, take-append-drop, take-append-le, take-take, take_all, take_at}
pub use Rattle.std.proofs.lemmas.List.Edits.{length-insert, length-remove}
pub use Rattle.std.proofs.lemmas.List.Elements.{All-cons, All-head, All-nil, All-tail}
pub use Rattle.std.specs.List.{flat_map, remove}
pub use Rattle.std.specs.Prelude.{All, Err, IfErr, IsOk, Ok, OnErr, OnOk, Result, if◌then◌else◌, insert, slice_range, ◌==◌}
