-- The words that most proofs of this crate cite, passed on from one place. Declares nothing.
pub use Rattle.chunk_format.specs.Header.{HasHeader, HasLive, header_of, size_by}
pub use Rattle.chunk_format.specs.declared.header.Header.{Header}
pub use Rattle.db_format.specs.Headers.{AreWholeBytes}
pub use Rattle.heap_check.proofs.WalkLaws.{HasPassed, passed_all, passed_more, passed_none, passed_size, passed_step, passed_there}
pub use Rattle.heap_check.specs.Owners.{IsRoomFor, marked_word}
unfoldable pub use Rattle.heap_map.specs.Cells.{mark_at}
pub use Rattle.heap_map.specs.Cells.{AddsChunk, HoldChunks, IsClear, area_size, cell_count, cell_size, drawn_by, first_mark, free_here, free_taken, free_within, in_cell, mark_here, marks}
unfoldable pub use Rattle.heap_map.specs.Numbers.{database_number}
pub use Rattle.heap_map.specs.Numbers.{HasNumbers, NotesSlots, has_slot, last_naming_below}
pub use Rattle.heap_map.specs.Pictures.{IsMapFault, map_fault}
unfoldable pub use Rattle.heap_map.specs.Text.{database_lines, map_body, map_database_line, map_text, padded, row_lines}
pub use Rattle.heap_map.specs.Text.{database_line, free_pieces, free_sizes, head_line, name_and_count, row_count, row_line, row_text, tail_lines}
pub use Rattle.heap_model.specs.Chunk.{Chunk, IsLive, fixed, free, free_size, managers_owner, movable, size_of, total}
pub use Rattle.heap_model.specs.Database.{data_in, database_in, entry_data, entry_in}
pub use Rattle.heap_model.specs.Heap.{BodyHere, HeapAccepted}
pub use Rattle.heap_model.specs.Lists.{numbered}
pub use Rattle.heap_model.specs.Reading.{chunks_of}
pub use Rattle.heap_model.specs.Slots.{IsSlot, area_start}
unfoldable pub use Rattle.heap_model.specs.Store.{bytes_under, databases, listed}
pub use Rattle.heap_model.specs.Store.{Accepted, IsDatabase, IsHeaderSlot, StoredDatabase, bytes_of, database_under, directory_bytes, owner_under}
pub use Rattle.laws_heap.proofs.Chunks.{SpelledAll-end, total-append}
pub use Rattle.laws_heap.proofs.FoundChunks.{InSlot, finds_body, finds_held, finds_spelled, read_heap}
pub use Rattle.laws_heap.proofs.Lending.{all_within}
pub use Rattle.palm_text.proofs.Parts.{nothing, stops, then}
pub use Rattle.palm_text.specs.Counted.{Writes, Writing}
pub use Rattle.std.proofs.Common.{Bool, List, None, Option, Some, [], add-one, ap, append_assoc, arith, cond, drop, drop-cons, false, get_or, inl, inr, length, map, refl, replicate, rules, set, subst, suc, sym, take, true, zero, ℕ, ◌*◌, ◌++◌, ◌+◌, ◌-◌, ◌/◌, ◌<◌, ◌∙◌, ◌∷◌, ◌≡◌, ◌≢◌, ◌≤◌}
pub use Rattle.std.proofs.lemmas.Bool.{cases_eq, cases_lt}
pub use Rattle.std.proofs.lemmas.Bool.Decides.{nat_tests}
pub use Rattle.std.proofs.lemmas.List.{append-nil, drop_all, get_or-map, get_or-set_other, get_or-set_same, length-map}
pub use Rattle.std.specs.Prelude.{codes, decimal, is_ok, max, min, nat_lt, slice_index, slice_range, ◌||◌, ◌⊎◌}
pub use Rattle.store_check.proofs.IndexLaws.{length-numbered, numbered_all, numbered_at}
pub use Rattle.store_check.proofs.LookupLaws.{managers_held, no_directory, some_directory, the_directory, word_listed}
pub use Rattle.store_check.proofs.SlotWords.{chained_room, chained_words, plain_room, slot_word}
unfoldable pub use Rattle.store_check.specs.Listing.{header_at}
pub use Rattle.store_check.specs.Listing.{listed_at, listed_count}
