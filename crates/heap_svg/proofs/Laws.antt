-- The lemmas of this crate that proofs of its functions cite, passed on from one place. Declares nothing.
pub use Rattle.heap_svg.proofs.ChainLaws.{fails}
pub use Rattle.heap_svg.proofs.DrawingLaws.{drawn_rows}
pub use Rattle.heap_svg.proofs.PieceLaws.{HaveSizes, sizes_end, sizes_small, sizes_start, sizes_step}
pub use Rattle.heap_svg.proofs.RoomLaws.{HaveRooms, count_packed, few_rooms, largest_packed, rooms_end, rooms_small, rooms_start, rooms_step, small_rooms}
pub use Rattle.heap_svg.proofs.RowLaws.{part_here, row_few, row_low, row_small, row_starts, strips_inside}
pub use Rattle.heap_svg.proofs.StripLaws.{Shown, exact_image, ok_maps, shown_end, shown_image, shown_none, shown_step}
unfoldable pub use Rattle.heap_svg.proofs.Words.{bar_parts, bottom_text, drawing_text, escaped, framed_text, strip_text, strips_text, top_text}
pub use Rattle.heap_svg.proofs.Words.{All, HasPassed, IsRowSize, List, Room, ShowImage, Strip, Writes, ap, arith, bar_part, chunks_of, closing_text, codes, count_by, databases_note, drop, drop_all, escaped_byte, false, first_row, flat_map, frame_text, free_pieces, free_size_by, get_or, greatest, header_room, height_of, is_movable, is_ok, kinds_text, labels_text, length, line_here, listed, middle_text, none_left, notes_text, nothing, open_text, passed_all, passed_none, passed_size, passed_there, read_heap, refl, rest_lines, rooms_drawn, rows_in, sizes, sizes_at, slots_of, small_pieces, stops, strip_part, strip_rows, subst, sym, then, true, used_slots_text, ℕ, ◌++◌, ◌+◌, ◌-◌, ◌<◌, ◌∙◌, ◌≡◌, ◌≤◌}
