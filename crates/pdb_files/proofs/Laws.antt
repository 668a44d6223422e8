-- The lemmas of this crate that proofs of its functions cite, passed on from one place. Declares nothing.
pub use Rattle.pdb_files.proofs.Contents.{app_block, entry_in_file, first_block_is, header_placed, same_offset, sort_block}
pub use Rattle.pdb_files.proofs.Databases.{exportable, in_this, lent_here, lent_number, lent_out, no_number, no_room, none_in, not_none, numbered, of_this, same_database, written}
pub use Rattle.pdb_files.proofs.FileTexts.{as_blocks, as_file, failed, no_data, no_entry, none_left, size_from, stops_data, stops_entry, then_data, then_entry}
pub use Rattle.pdb_files.proofs.FilledChunks.{IsFilling, next_data, none_more, none_yet, one_more}
pub use Rattle.pdb_files.proofs.OwnBlocks.{app_own, entry_own, sort_own}
pub use Rattle.pdb_files.proofs.ReadDatabases.{imported, names_enough, no_memory_left, no_room_left, zeros_first}
pub use Rattle.pdb_files.proofs.Refusals.{count_is, fault_brings, free_found, front_brings, good_brings, taken_found, whole_not_memory}
pub use Rattle.pdb_files.proofs.Words.{Any, AreFilled, Block, Bool, ChunkMap, Database, FirstBrings, HasDataOf, Import, IsLent, IsTaken, LeavesStore, List, MakesWhole, Memory, Name, None, Option, OutOfMemory, Some, WholeEntry, Writes, [], ap, arith, block_bytes, block_offset, block_size, block_under, blocks_in, blocks_text, both_ways, bytes_at, bytes_named, checks_of_new, checks_of_whole, content, content_of, data_at, data_filled, data_in, data_sizes, data_text, database_in, entries_text, entry_bytes, entry_count_in, entry_data, entry_in, false, file_entry, file_of, first_block, get_or, get_or-map, handed_on, header_text, idle, inl, inr, is_ok, length, length-map, map, most_databases, none_slid, numbers_in, refl, refused, resources_in, rules, size_parts, slice_range, slides_then, stops, store_of, subst, sym, take_all, then, true, with_offsets, ℕ, ◌++◌, ◌+◌, ◌<◌, ◌∙◌, ◌∷◌, ◌≡◌, ◌≢◌, ◌≤◌}
