-- The lemmas of this crate that proofs of its functions cite, passed on from one place. Declares nothing.
pub use Rattle.heap_map.proofs.CellLaws.{cell_counted, cell_marked, cell_starts, cells_order, cells_within, few_cells, free_few, free_total_most, header_room, hold_none, hold_start, hold_step, length-marks, mark_is, marks_all, marks_more}
pub use Rattle.heap_map.proofs.FaultLaws.{fault_of, never_write, short_fault}
pub use Rattle.heap_map.proofs.LineLaws.{line_here, none_left, padded_is, rest_lines}
pub use Rattle.heap_map.proofs.NumberLaws.{few_listed, notes_then, numbers_all}
pub use Rattle.heap_map.proofs.PieceLaws.{HaveMet, all_met_count, all_met_largest, free_size_by, met_small, met_start, met_step}
pub use Rattle.heap_map.proofs.ReadingLaws.{bytes_there, header_bytes, header_owner, header_whole, live_is, live_there}
unfoldable pub use Rattle.heap_map.proofs.Words.{database_lines, map_body, map_text, row_lines}
pub use Rattle.heap_map.proofs.Words.{AreWholeBytes, Bool, HasPassed, HoldChunks, IsMapFault, List, NotesSlots, Writes, Writing, [], all_within, ap, area_size, area_start, arith, cases_eq, cell_count, cell_size, chunks_of, database_line, directory_bytes, entry_data, entry_in, false, first_mark, free_within, get_or, get_or-set_other, get_or-set_same, head_line, in_cell, inl, inr, is_ok, length, listed_count, managers_held, map, map_database_line, marks, min, nothing, numbered, passed_all, passed_none, passed_size, passed_there, read_heap, row_count, row_line, row_text, rules, set, slice_index, slice_range, stops, subst, sym, tail_lines, then, true, word_listed, ℕ, ◌*◌, ◌+◌, ◌-◌, ◌/◌, ◌<◌, ◌∙◌, ◌∷◌, ◌≡◌, ◌≤◌}
