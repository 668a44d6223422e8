-- The words that most proofs of this crate cite, passed on from one place. Declares nothing.
pub use Rattle.heap_model.specs.Bytes.{u16_at, u32_at}
pub use Rattle.heap_model.specs.Chunk.{data_owner, need}
unfoldable pub use Rattle.heap_model.specs.Database.{database_in, header_in}
pub use Rattle.heap_model.specs.Database.{Database, DatabaseFits, DatabaseHeader, Entry, EntryFits, HasShape, IsDatabaseName, IsSpelled, a_record, a_resource, data_in, entry_bytes, entry_count_in, entry_data, entry_in, entry_offset, entry_with, has_resources, is_deleted, name_in, resources_in}
pub use Rattle.heap_model.specs.DatabaseFields.{app_info_at, attributes_at, entry_size, sort_info_at}
pub use Rattle.heap_model.specs.DatabaseSteps.{IsTaken, taken}
pub use Rattle.heap_model.specs.EntrySteps.{LeavesStore, MakesNone, most_entries}
pub use Rattle.heap_model.specs.FileSteps.{GainsRead, IsNewData, block_sizes, fault_checks, listing_part, makings, no_memory, size_of_block, whole_parts, whole_slots}
pub use Rattle.heap_model.specs.Files.{HasFault, HasNoFault, HaveIds, IsFirstFault, IsReadAs, block_bytes, block_offset, block_size, blocks_in, entries_end, file_faults, file_of, first_block, idle, idle_attributes, idle_entry, kept_ids, with_offsets}
pub use Rattle.heap_model.specs.Leaving.{database_here, rewritten}
pub use Rattle.heap_model.specs.Lending.{IsLent}
pub use Rattle.heap_model.specs.Lists.{Distinct, numbered, times}
pub use Rattle.heap_model.specs.Meaning.{ChunkMap, LiveChunk}
pub use Rattle.heap_model.specs.Memory.{Memory}
pub use Rattle.heap_model.specs.MemorySteps.{Of, reply_of}
pub use Rattle.heap_model.specs.Refusals.{Check, FirstBrings, NoneHolds, ◌brings◌}
pub use Rattle.heap_model.specs.Space.{MovesNothing, Still, rooms}
unfoldable pub use Rattle.heap_model.specs.Store.{owner_under, store_of}
pub use Rattle.heap_model.specs.Store.{Accepted, StoredDatabase, bytes_named, bytes_of, content, databases, listed, most_databases, numbers_of, unique_id, unique_ids}
pub use Rattle.heap_model.specs.StoreSteps.{DoesInStore, StoreAsBefore, row_of}
pub use Rattle.heap_model.specs.StoreWords.{In, OfDatabase, may_run_out, with_number}
pub use Rattle.heap_model.specs.UniqueIds.{seed_in}
pub use Rattle.heap_model.specs.declared.call.FileCall.TheVariants.{Export, Import}
pub use Rattle.heap_model.specs.declared.database.DbInfo.{DbInfo}
pub use Rattle.heap_model.specs.declared.names.Db.{Db}
pub use Rattle.heap_model.specs.declared.names.Name.{Name}
pub use Rattle.heap_model.specs.declared.refusal.Refusal.{Refusal}
pub use Rattle.heap_model.specs.declared.refusal.Refusal.TheVariants.{BadFile, Lent, NoSuchDatabase, NotEnoughSpace, OutOfMemory, TooManyEntries}
pub use Rattle.laws_store.proofs.CallSteps.{asks, handed_on, refused, same_store}
pub use Rattle.laws_store.proofs.Found.{found_stands}
pub use Rattle.laws_store.proofs.Numbered.{listed_number, number_held, number_here, number_some, owned_there}
pub use Rattle.laws_store.proofs.Times.{map-All, same-yes, times-all, times-cons, times-contained, times-some}
pub use Rattle.palm_store.proofs.NamedChunks.{any_at, entry_named, first_named, length-named, named_owner, second_named}
pub use Rattle.palm_store.proofs.Rests.{none_slid, slides_then, writes_then}
pub use Rattle.palm_store.specs.EntryCalls.{LeavesChanged, OnlySlides, OnlyWrites}
pub use Rattle.palm_store.specs.Files.{HasDataOf, IsDataName, data_filled}
pub use Rattle.palm_store.specs.WholeDatabases.{CanBeWhole, CanCome, GainsZeros, IsGained, MakesWhole, RunsOut, WholeEntry, checks_of_whole, data_sizes, entries_named, header_asked, id_asked, numbers_in, size_of_data, whole_database, whole_size}
pub use Rattle.palm_store.specs.declared.databases.whole.BlockSizes.{BlockSizes}
pub use Rattle.palm_text.proofs.Parts.{nothing, stops, then}
pub use Rattle.palm_text.specs.Counted.{Writes, Writing}
pub use Rattle.pdb_files.specs.FileParts.{ArePlaces, IsExportable, MayBeRead, NamesReadableData, block_under, content_of, file_entry}
pub use Rattle.pdb_files.specs.Filling.{AreFilled, AreOnce, HasBlock, Refills, zeros_for}
pub use Rattle.pdb_files.specs.Imports.{checks_in_front, checks_of_new}
pub use Rattle.pdb_files.specs.Plans.{ArePlannedOf, IsPlan, IsPlannedAs, IsPlannedOf, IsShort, id_planned}
pub use Rattle.pdb_files.specs.declared.importing.plan.Plan.{Plan}
pub use Rattle.pdb_format.proofs.FileBlocks.{block_count, length-blocks, none_planned, record_block, resource_block, size_at}
pub use Rattle.pdb_format.proofs.FileIds.{given_long, ids_for, ids_of_records, ids_of_resources}
pub use Rattle.pdb_format.proofs.FileParts.{file_parts, length-with_offsets, record_long, resource_long, size_parts}
pub use Rattle.pdb_format.proofs.Zips.{all_given, none_given, numbered_zip, zip_at, zip_long}
pub use Rattle.pdb_format.specs.Blocks.{IsBlockWithin, bytes_at, size_within}
pub use Rattle.pdb_format.specs.FileTexts.{blocks_text, data_at, data_text, entries_text, header_text}
pub use Rattle.pdb_format.specs.ReadFiles.{HasIdsFor, header_read}
pub use Rattle.pdb_format.specs.Writable.{file_size}
pub use Rattle.pdb_format.specs.declared.blocks.Block.{Block}
pub use Rattle.std.proofs.Common.{Bool, Err, List, None, Ok, Option, Result, Some, [], add-one, ap, arith, drop, drop-cons, false, get_or, inl, inr, length, length-append, map, refl, rules, set, slice_index_or, subst, suc, sym, true, zero, ℕ, ◌*◌, ◌++◌, ◌+◌, ◌-◌, ◌<◌, ◌^◌, ◌∙◌, ◌∷◌, ◌≡◌, ◌≢◌, ◌≤◌}
pub use Rattle.std.proofs.lemmas.Bool.{both_ways, cases_eq, cases_lt}
pub use Rattle.std.proofs.lemmas.Grind.{common_steps, get_or_default_zero}
pub use Rattle.std.proofs.lemmas.List.{ext_get_or, get_or-append_right, get_or-map, get_or_append_left, get_or_default, length-map, length-replicate, nil_from_length, take_all}
pub use Rattle.std.proofs.lemmas.List.Elements.{All-cons, All-head, All-nil, All-set, All-tail}
pub use Rattle.std.proofs.lemmas.List.FromFn.{get_or-map-range_with_len, length-map-range_with_len}
pub use Rattle.std.proofs.lemmas.Option.{get_or_from_slice_get, slice_get_within}
pub use Rattle.std.specs.List.{AllZip, Contains, filter_map}
pub use Rattle.std.specs.Option.{is_some}
pub use Rattle.std.specs.Prelude.{All, Any, IsErr, IsSome, is_ok, slice_range, ◌⊎◌}
