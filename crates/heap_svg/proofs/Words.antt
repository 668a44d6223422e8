-- The words that most proofs of this crate cite, passed on from one place. Declares nothing.
pub use Rattle.chunk_format.proofs.HeaderLaws.{size_by-header_of}
pub use Rattle.chunk_format.specs.Header.{HasHeader, header_of, size_by}
pub use Rattle.chunk_format.specs.declared.header.Header.{Header}
pub use Rattle.heap_check.proofs.WalkLaws.{HasPassed, passed_all, passed_more, passed_none, passed_size, passed_step, passed_there}
pub use Rattle.heap_map.proofs.CellLaws.{header_room, mark_by-is}
pub use Rattle.heap_map.proofs.LineLaws.{line_here, none_left, rest_lines}
pub use Rattle.heap_map.proofs.PieceLaws.{IsLiveChunk, behind_free, free_size_by, live_sizes, onto_live, sizes_behind, small_pieces}
pub use Rattle.heap_map.specs.Text.{free_pieces, free_sizes}
pub use Rattle.heap_model.specs.Chunk.{Chunk, fixed, free, is_movable, movable, need, size_of, total}
pub use Rattle.heap_model.specs.Heap.{HeapAccepted}
pub use Rattle.heap_model.specs.Layout.{gap, merged}
pub use Rattle.heap_model.specs.Reading.{chunks_of}
pub use Rattle.heap_model.specs.Slots.{area_start, slots_of}
pub use Rattle.heap_model.specs.Space.{greatest}
pub use Rattle.heap_model.specs.Store.{directory_bytes, listed}
unfoldable pub use Rattle.heap_svg.specs.Drawing.{bar_part, bar_parts, bar_text, bottom_text, drawing_text, framed_text, top_text}
pub use Rattle.heap_svg.specs.Drawing.{WritesDrawing, bar_open, closing_text, frame_text, height_of, middle_text, notes_text, open_text, used_slots_text}
unfoldable pub use Rattle.heap_svg.specs.Legend.{databases_note, escaped, letter_note, size_notes}
pub use Rattle.heap_svg.specs.Legend.{database_at, database_note, entries_note, escaped_byte, is_of_size, kinds_text, size_note, size_note_at, sizes_at}
unfoldable pub use Rattle.heap_svg.specs.Rooms.{rooms_drawn}
pub use Rattle.heap_svg.specs.Rooms.{AddsToRooms, compact_pieces, kept, rooms_from, sizes}
unfoldable pub use Rattle.heap_svg.specs.Rows.{labels_text, rights_text, strip_row, strip_text, strips_text}
pub use Rattle.heap_svg.specs.Rows.{IsRowSize, doubled, first_row, label_text, rect_text, right_of, right_text, rows_in, sizes_in, strip_part, strip_rows, title_text}
unfoldable pub use Rattle.heap_svg.specs.Strips.{strips_of}
pub use Rattle.heap_svg.specs.Strips.{AddsBytes, AnyHas, BeginsStrip, HasByte, HasOneMark, JoinsLast, ShowImage, all_strips, byte_mark, end_of, head_mark, head_strip, joins, longer, mark_of_byte, next_strip, strips_from}
pub use Rattle.heap_svg.specs.declared.rooms.Room.{Room}
pub use Rattle.heap_svg.specs.declared.strips.Strip.{Strip}
pub use Rattle.laws_heap.proofs.Chunks.{SpelledAll-end, total-append}
pub use Rattle.laws_heap.proofs.FoundChunks.{read_heap}
pub use Rattle.palm_text.proofs.Parts.{nothing, stops, then}
pub use Rattle.palm_text.specs.Counted.{Writes, Writing}
pub use Rattle.std.proofs.Common.{Bool, Err, List, None, Ok, Option, Result, Some, [], add-one, ap, append_assoc, arith, codes, cond, drop, drop-cons, false, get_or, inl, inr, is_ok, length, refl, subst, suc, sym, take, true, zero, ℕ, ◌*◌, ◌++◌, ◌+◌, ◌-◌, ◌/◌, ◌<◌, ◌∙◌, ◌∷◌, ◌≡◌, ◌≤◌}
pub use Rattle.std.proofs.Math.Nat.{mul-div-le, mul-le-mul_left, mul-le-mul_right}
pub use Rattle.std.proofs.lemmas.Bool.{cases_lt}
pub use Rattle.std.proofs.lemmas.Bool.Decides.{nat_tests}
pub use Rattle.std.proofs.lemmas.List.{append-nil, drop_all, take_all}
pub use Rattle.std.proofs.lemmas.List.Elements.{All-nil, All-push, All-weaker}
pub use Rattle.std.specs.List.{flat_map}
pub use Rattle.std.specs.Prelude.{All, IfOk, IsErr, count_by, decimal, max, nat_eq, nat_lt, ◌⊎◌}
pub use Rattle.store_check.specs.Listing.{listed_count}
