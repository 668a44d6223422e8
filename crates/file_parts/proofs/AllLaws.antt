-- The lemmas of this crate that proofs of its functions cite, passed on from one place. Declares nothing.
pub use Rattle.file_parts.proofs.EntryLines.{any_part, line_joined, part_joined}
pub use Rattle.file_parts.proofs.ExactEntries.{all_lines, line_here, none_left, rest_lines}
pub use Rattle.file_parts.proofs.ExactFolders.{packs_exactly}
pub use Rattle.file_parts.proofs.ExactHeads.{data_with, filler_some, no_line, some_line, with_twice}
pub use Rattle.file_parts.proofs.ExactInside.{rank_inside, ranks_once}
pub use Rattle.file_parts.proofs.ExactOrders.{free_added, free_left_out, ranks_all}
pub use Rattle.file_parts.proofs.ExactPacked.{appended_twice, block_is, blocks_whole, entries_whole, entry_more, fields_taken, joined_head, large_fault, misplaced_fault, misplaced_memory, offsets_are, placed_count, size_is, start_is, with_all}
pub use Rattle.file_parts.proofs.ExactPackedBack.{packed_long}
pub use Rattle.file_parts.proofs.ExactPlaces.{ArePlaced, blocks_of, placed_next, placed_none, size_before}
pub use Rattle.file_parts.proofs.ExactRanks.{rest_from}
pub use Rattle.file_parts.proofs.ExactRead.{is_exactly, name_front}
pub use Rattle.file_parts.proofs.ExactStarts.{first_starts, none_more, one_more, order_is}
pub use Rattle.file_parts.proofs.ExactWritten.{all_written, blocks_from, blocks_none, entries_from, entries_none, place_fault, size_placed, stops_entries, stops_fields, stops_name}
pub use Rattle.file_parts.proofs.KeptSources.{entry_count, field_is, filler_either, header_is, header_name, keep_why, keeping_is, keeping_ordered, kept_from, kept_size, name_is, ranks_are, whole_permuted}
pub use Rattle.file_parts.proofs.ListedEntries.{all_more, entries_end, entries_on, listed_more, next_shorter}
pub use Rattle.file_parts.proofs.PackedEntries.{data_here, entry_placed, joined, length-packed, packed_good, packed_has_file, text_here}
pub use Rattle.file_parts.proofs.PackedFiles.{block_here, blocks_end, blocks_on, refused_more, sizes}
pub use Rattle.file_parts.proofs.PackedStarts.{form_is, head_least, head_most, length-take_most, size_of, starts, take_front}
pub use Rattle.file_parts.proofs.ReplacedFiles.{exactly_in}
pub use Rattle.file_parts.proofs.ReplacedSound.{in_order, part_empty, place_why}
unfoldable pub use Rattle.file_parts.proofs.AllWords.{exact_blocks, exact_bytes, name_field, u32_at}
pub use Rattle.file_parts.proofs.AllWords.{AfterName, All, AreBytes, AreMarked, AreOffsets, BlockStart, Bool, Database, DatabaseHeader, Entry, Err, ExactFile, IfErr-weaker, IfOk-weaker, IsCanonical, IsDatabaseName, IsGoodEntry, IsNonDecreasingBy-from_sort_by_key, List, ListedEntry, None, Option, OutOfMemory, Result, ScriptFault, Writes, Writing, [], after_name_of, after_name_text, all_bytes, ap, app_info_at, append-nil, append_assoc, arith, below_more, block_bytes, block_offset, block_order, block_size, blocks_in, blocks_text, bytes_at, codes, data_at, data_in, data_read, data_text, database_listed, database_of_parts, drop, drop-replicate, drop_all, encode_lower, entries_listed, entries_text, entry_bytes, entry_count_in, entry_data, entry_in, entry_listed, entry_name, entry_of, entry_offset, entry_read_at, entry_values, entry_with, exact_block, exact_entry, exact_entry_line, exact_in, exact_of, exact_packed, exact_placed, exact_replacing, exact_size, exact_start, exact_tail, false, false≢true, file_named, file_parts, file_size, filled, filler_in, first_block, flat_map, free_ranks, get_or, has_resources, header_read, header_text, idle, idle_entry, is_misplaced, is_ok, known_of, length, length-append, length-map, length-replicate, length-with_offsets, map, most_app, most_bytes, most_file_bytes, name_if_data, not_truncated, nothing, offsets_in, option_map, order_line, order_lines, packed_entries, part_at, part_text, read_entries, refl, replicate, rules, slice_index, stops, subst, sym, take, take-replicate, take_all, then, times, true, unless_bad, with_offsets, written_filler, ℕ, ◌++◌, ◌+◌, ◌-◌, ◌<◌, ◌==◌, ◌∙◌, ◌∷◌, ◌≡◌, ◌≤◌}
