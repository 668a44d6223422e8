-- The words that several proof files of this crate use, under one path.
pub use Rattle.std.proofs.Common.{Bool, Err, List, None, Ok, Option, Result, Some, [], ap}
pub use Rattle.std.proofs.Common.{append_assoc, arith, cond, drop, false, get_or, inl, inr, length}
pub use Rattle.std.proofs.Common.{length-append, length-drop, length-take, refl, replicate}
pub use Rattle.std.proofs.Common.{slice_index, subst, suc, sym, take, true, zero, ℕ, ◌%◌, ◌*◌, ◌++◌}
pub use Rattle.std.proofs.Common.{◌+◌, ◌-◌, ◌/◌, ◌<◌, ◌^◌, ◌∙◌, ◌∷◌, ◌≡◌, ◌≢◌, ◌≤◌}
pub use Rattle.std.proofs.Math.Seq.{set-append_seam, take-append-add}
pub use Rattle.std.proofs.lemmas.Bool.{cases_eq, cases_lt, eq-eqb, eqb-false, eqb-true, leb-false}
pub use Rattle.std.proofs.lemmas.Bool.{leb-true}
pub use Rattle.std.proofs.lemmas.Bool.Decides.{Decides-and, Decides-eqb, Decides-like, Decides-ltb}
pub use Rattle.std.proofs.lemmas.Bool.Decides.{Decides-not, Decides-or, nat_tests}
pub use Rattle.std.proofs.lemmas.List.{append-nil, drop-append-le, drop-drop, drop-take, drop_at}
pub use Rattle.std.proofs.lemmas.List.{get_or-append_right, get_or-drop, get_or-take}
pub use Rattle.std.proofs.lemmas.List.{get_or_append_left, get_or_default, length-replicate}
pub use Rattle.std.proofs.lemmas.List.{length-take-le, same_lists, take-take, take_all, take_at}
pub use Rattle.std.proofs.lemmas.List.Elements.{All-append, All-cons, All-head, All-nil, All-tail}
pub use Rattle.std.proofs.lemmas.List.Elements.{All-weaker, filter-append}
pub use Rattle.std.proofs.lemmas.List.Sums.{sum_by-append, sum_by-cons}
pub use Rattle.std.specs.Bool.{Decides}
pub use Rattle.std.specs.List.{list_all, list_any, position_or_len}
pub use Rattle.std.specs.Option.{is_none}
pub use Rattle.std.specs.Prelude.{All, IfErr, IsErr, IsErrAnd, IsSome, IsTrue, OnErr, count_by}
pub use Rattle.std.specs.Prelude.{filter, if◌then◌else◌, nat_le, not, slice_range, sum_by, ◌&&◌}
pub use Rattle.std.specs.Prelude.{◌==◌, ◌||◌, ◌↔◌, ◌⊎◌}
pub use Rattle.heap_model.specs.Bytes.{sized_to}
unfoldable pub use Rattle.heap_model.specs.Bytes.{overwritten, u16_at, u16_bytes, u32_at, u32_bytes}
pub use Rattle.heap_model.specs.Chunk.{Chunk, IsFree, IsLive, Spelled, SpelledAll, body_length}
pub use Rattle.heap_model.specs.Chunk.{fixed, fixed_lock, free, free_size, is_owned_by, is_table_by}
pub use Rattle.heap_model.specs.Chunk.{managers_owner, movable, need, size_of, slot_named, total}
unfoldable pub use Rattle.heap_model.specs.Chunk.{seen}
pub use Rattle.heap_model.specs.Frame.{HasFrame, chained_magic, directory_at, magic, most_size}
pub use Rattle.heap_model.specs.Heap.{BodyHere, HasDirectory, HeapAccepted, IsBody}
pub use Rattle.heap_model.specs.Heap.{IsCallersIfFixed, IsChain, IsHead, IsHeap, IsKnownIfFixed}
pub use Rattle.heap_model.specs.Heap.{IsTablePlace, ManagersHere, TableHere, Tied, Tiles}
pub use Rattle.heap_model.specs.Heap.{directory_of}
pub use Rattle.heap_model.specs.Layout.{AllBelow, Alters, Becomes, BeginsFree, Claims, Exchanges}
pub use Rattle.heap_model.specs.Layout.{FreeUpTo, IsFreeAt, IsPlain, IsRoom, IsSpot, WritesPlain}
pub use Rattle.heap_model.specs.Layout.{free_onto, freed, gap, in_front, layout_of, merged}
pub use Rattle.heap_model.specs.Layout.{owned_freed, with_bytes, with_lock, with_owner}
unfoldable pub use Rattle.heap_model.specs.Layout.{exchanged}
pub use Rattle.heap_model.specs.Lending.{IsLent, IsLentAs, IsLentBody, KeepsLoan, LendsBodies}
pub use Rattle.heap_model.specs.Lending.{LendsOther, LentHere}
pub use Rattle.heap_model.specs.Maps.{callers_map, not_owned, updated}
pub use Rattle.heap_model.specs.Meaning.{ChunkMap, Holds, LiveChunk, NamedHere}
pub use Rattle.heap_model.specs.Memory.{EachLent, IsAmong, IsWithin, Lent, Memory, Misses}
pub use Rattle.heap_model.specs.Memory.{MissesOne, SomeLent}
pub use Rattle.heap_model.specs.MoreTables.{AddsSlots, GainsTable, HasNewTable, PutsTable, gained}
pub use Rattle.heap_model.specs.MoreTables.{gained_slots, last_in, last_next}
pub use Rattle.heap_model.specs.Packing.{BeginsStaying, EndsStaying, FreeIsLast, OpensBehind}
pub use Rattle.heap_model.specs.Packing.{Packed, Slid, SlidesOneStretch, WholeStretch, lives}
pub use Rattle.heap_model.specs.Packing.{moved_behind, moved_by_packing, opened, packed}
pub use Rattle.heap_model.specs.Packing.{packed_behind, staying}
pub use Rattle.heap_model.specs.Pairing.{HoldsBody, NamesItsSlot}
pub use Rattle.heap_model.specs.Placed.{AnyPlaced, EveryOne, EveryPlaced, FirstOne, FirstWithout}
pub use Rattle.heap_model.specs.Placed.{any_placed, every_placed}
pub use Rattle.heap_model.specs.Placing.{Finds, NotFixedAs, SameFrame}
pub use Rattle.heap_model.specs.Reading.{above_size, area_tests, chunk_by_words, chunks_within}
pub use Rattle.heap_model.specs.Reading.{first_then, h_offset_field, has_live_word, head_tests}
pub use Rattle.heap_model.specs.Reading.{holds_body, is_body_here, is_chain, is_fixed_name}
pub use Rattle.heap_model.specs.Reading.{is_in_shape, is_known_if_fixed, is_managers_here}
pub use Rattle.heap_model.specs.Reading.{is_table_here, is_table_place, live_under, lock_field}
pub use Rattle.heap_model.specs.Reading.{names_its_slot, owner_field, size_field}
unfoldable pub use Rattle.heap_model.specs.Reading.{chunk_at, chunks_from, chunks_of, held}
unfoldable pub use Rattle.heap_model.specs.Reading.{is_accepted}
pub use Rattle.heap_model.specs.Resizing.{GrowsInPlace, Relocates, behind_front, with_length}
unfoldable pub use Rattle.heap_model.specs.Resizing.{grown, relocated}
pub use Rattle.heap_model.specs.Rooms.{Lowers, LowersOne, is_movable_as, stretch_of}
pub use Rattle.heap_model.specs.Slots.{HasTable, IsSlot, StandsBehind, StandsIn, Table, Tables}
pub use Rattle.heap_model.specs.Slots.{TablesLie, aligned, area_start, behind_table, first_next}
pub use Rattle.heap_model.specs.Slots.{first_slots, head_end, is_chained, is_slot, slot_count}
pub use Rattle.heap_model.specs.Slots.{slots_further, slots_in, slots_in_row, slots_total}
pub use Rattle.heap_model.specs.Slots.{stands_in, start_behind, table_at, table_end, table_then}
pub use Rattle.heap_model.specs.Slots.{tables_of, tables_within}
unfoldable pub use Rattle.heap_model.specs.Slots.{further_tables, slots_of}
pub use Rattle.heap_model.specs.Space.{AllFree, MovesAlone, MovesNothing, MovesOneStretch}
pub use Rattle.heap_model.specs.Space.{MovesOneStretchAnd, NoRun, NoneStays, Short, ShortFor}
pub use Rattle.heap_model.specs.Space.{free_behind, free_behind_in, free_front, free_slots}
pub use Rattle.heap_model.specs.Space.{free_total, has_chunk, is_there, moved_bytes, moved_from}
pub use Rattle.heap_model.specs.Space.{onto_first, place_of, place_under, room_of, rooms, rooms_of}
pub use Rattle.heap_model.specs.Space.{runs_between, stays_put, stretches, with_freed}
pub use Rattle.byteorder.specs.Endian.{big_bytes, big_from}
