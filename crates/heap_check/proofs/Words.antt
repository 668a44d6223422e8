-- The words that most proofs of this crate cite, passed on from one place.
pub use Rattle.bit_sets.specs.Sets.{HasNone, IsInSet}
pub use Rattle.chunk_format.proofs.HeaderLaws.{size_by-header_of}
pub use Rattle.chunk_format.specs.Header.{HasHeader, HasLive, header_of, size_by}
pub use Rattle.chunk_format.specs.declared.header.Header.{Header}
pub use Rattle.heap_check.specs.Chained.{AddsInUse, Followed, FoundBodies, HeldBefore, HoldsMarked, IsInUse, IsLeft, IsManagersAt, IsNoTable, IsUnmarkedBy, ManagersBody, ManagersBodyBy, ManagersBy, Marks, MarksBefore, MarksWords, MayBe, NamesMarkedBy, Takes, TakesMarks, TakesTable, is_managers, managers_by, may_be_by}
pub use Rattle.heap_check.specs.Faults.{FirstBrought, HasBadDirectory, HasBadSize, HasBadSlotCount, IsBadChunk, IsBadFixedOwner, IsBadTable, IsChunkWithoutSlot, IsFirstHeapFault, IsSlotMismatch, IsTooShort, Leads, area_faults, slot_faults}
pub use Rattle.heap_check.specs.Owners.{HasOwners, IsRoomFor, NamesBy, NoneMarked, NotesOwner, marked_word, marks_needed, met_owner, noted_owner}
pub use Rattle.heap_check.specs.Survey.{AddsMark, AreNoted, BodyBy, HasSurveyed, IsFirstWithout, IsHolder, IsManagersBody, IsMarked, IsOwnerOf, IsPaired, IsSurvey, KeepsBeyond, ManagersAt, MarkTiedSlots, MarkedAt, MarksBody, Surveys, callers_by, fixed_by, free_by, holds_place, movable_by, names_by, noted, owner_by}
pub use Rattle.heap_check.specs.declared.chained.Bodies.{Bodies}
pub use Rattle.heap_check.specs.declared.chained.Chain.{Chain}
pub use Rattle.heap_check.specs.declared.chained.Names.{Names}
pub use Rattle.heap_check.specs.declared.fault.HeapFault.TheVariants.{BadChunk, BadDirectory, BadFixedOwner, BadTable, ChunkWithoutSlot, SlotMismatch}
pub use Rattle.heap_check.specs.declared.survey.Survey.{Survey}
pub use Rattle.heap_model.specs.Bytes.{u32_at}
pub use Rattle.heap_model.specs.Chunk.{Chunk, HasChunk, IsLive, Spelled, SpelledAll, fixed, free, free_size, is_fixed, is_movable, movable, need, size_of, total}
pub use Rattle.heap_model.specs.Heap.{BodyHere, HasDirectory, HeapAccepted, IsBody, IsChain, IsHead, IsHeap, IsKnownIfFixed, IsTablePlace, ManagersHere, TableHere, Tiles, directory_of}
pub use Rattle.heap_model.specs.Pairing.{HoldsBody, NamesItsSlot}
pub use Rattle.heap_model.specs.Placed.{AnyPlaced, EveryOne, EveryPlaced, FirstOne, FirstWithout}
unfoldable pub use Rattle.heap_model.specs.Reading.{chunks_of}
pub use Rattle.heap_model.specs.Reading.{chunk_at, holds_body, is_table_place, names_its_slot}
unfoldable pub use Rattle.heap_model.specs.Slots.{further_tables, slots_of}
pub use Rattle.heap_model.specs.Slots.{IsSlot, StandsBehind, StandsIn, Table, area_start, first_next, first_slots, is_chained, slot_count, slots_further, slots_in_row, slots_total, table_at, table_then, tables_within}
unfoldable pub use Rattle.heap_model.specs.Store.{owner_under}
pub use Rattle.heap_model.specs.Store.{owner_of}
pub use Rattle.laws_heap.proofs.Accepted.{Decides-holds, Decides-names, Decides-place, heap_of_read}
pub use Rattle.laws_heap.proofs.Chunks.{Spelled-size, SpelledAll-end, SpelledAll-push, SpelledAll-split, total-append}
pub use Rattle.laws_heap.proofs.FoundChunks.{InSlot, finds_held, finds_read, in_slot, read_heap}
pub use Rattle.laws_heap.proofs.Meanings.{empty_unheld, held-is, slot_place}
pub use Rattle.laws_heap.proofs.OneTable.{one_lies, one_number, one_same, one_stands, one_total}
pub use Rattle.laws_heap.proofs.Placed.{AnyPlaced-left, AnyPlaced-map, AnyPlaced-mid, AnyPlaced-parts, AnyPlaced-right, AnyPlaced-split, EveryOne-like, EveryPlaced-push, FirstOne-like, FirstOne-not, FirstWithout-first, FirstWithout-kept, FirstWithout-not, PlacedParts, every_any}
pub use Rattle.laws_heap.proofs.Runs.{chunk_there, chunks_after, chunks_from-tiled, stuck_run}
pub use Rattle.laws_heap.proofs.Shapes.{chunk_at-spelled}
pub use Rattle.laws_heap.proofs.SlotNumbers.{chain_length, some_place}
pub use Rattle.laws_heap.proofs.Slots.{Decides-slot, each_slot, every_first-more, every_slot, first_slots-all, first_slots-front, first_slots-more, length-slots_in_row, parts_stand, same_slot, slot_facts, slot_stands, slot_within, stands_below, stands_slot, stands_split, tiled_table, whole_table}
pub use Rattle.laws_heap.proofs.Tests.{cond-false, cond-true, true_or_false}
pub use Rattle.master_table.proofs.RowLaws.{last_end, row_small}
pub use Rattle.master_table.specs.Table.{IsRow, row_end, row_start, tables_from}
pub use Rattle.std.proofs.Common.{Bool, Err, List, None, Ok, Option, Result, Some, [], ap, append_assoc, arith, cond, false, get_or, inl, inr, length, length-append, map, refl, replicate, set, subst, suc, sym, true, zero, ℕ, ◌%◌, ◌*◌, ◌++◌, ◌+◌, ◌-◌, ◌/◌, ◌<◌, ◌∙◌, ◌∷◌, ◌≡◌, ◌≢◌, ◌≤◌}
pub use Rattle.std.proofs.lemmas.Bool.{cases_eq, cases_lt, eq-eqb, eqb-true, false≢true}
pub use Rattle.std.proofs.lemmas.Bool.Decides.{Decides-and, Decides-eqb, Decides-ltb}
pub use Rattle.std.proofs.lemmas.List.{get_or-map, get_or-set_other, get_or-set_same, length-map, map-set}
pub use Rattle.std.proofs.lemmas.List.Sums.{sum_by-cons, sum_by_push}
pub use Rattle.std.specs.Bool.{Decides}
pub use Rattle.std.specs.Prelude.{IfErr, IfNone, IsTrue, OnErr, count_by, not, slice_index, sum_by, ◌==◌, ◌↔◌, ◌⊎◌}
