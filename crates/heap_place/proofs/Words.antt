-- The words that several proof files of this crate use, under one path.
pub use Rattle.std.proofs.Common.{Bool, List, MatchOption, None, Option, Some, [], ap, append-nil, append_assoc, arith, cond, drop, false, inl, inr, length, length-append, length-drop, length-take, refl, rules, replicate, subst, suc, sym, take, true, zero, ℕ, ◌%◌, ◌*◌, ◌++◌, ◌+◌, ◌-◌, ◌/◌, ◌<◌, ◌^◌, ◌∙◌, ◌∷◌, ◌≡◌, ◌≢◌, ◌≤◌}
pub use Rattle.std.proofs.lemmas.Bool.{OnFalse_at, both_ways, cases_eq, cases_lt, eq-eqb, eqb-true}
pub use Rattle.std.proofs.lemmas.List.{drop_all, get_or-replicate, get_or-set_other, get_or-set_same, length-replicate, length-set, length-take-le, take-take, take_all}
pub use Rattle.std.specs.Prelude.{IfNone, IsSome, IsTrue, if◌then◌else◌, nat_lt, slice_index, slice_range, slice_set, sum_by, ◌&&◌, ◌==◌, ◌⊎◌}
pub use Rattle.heap_model.specs.Bytes.{overwritten, sized_to, u32_at, u32_bytes}
pub use Rattle.heap_model.specs.Chunk.{Chunk, HasChunk, IsFree, IsLive, Spelled, SpelledAll, fixed, fixed_lock, free, free_size, is_owned_by, movable, need, size_of, total}
pub use Rattle.heap_model.specs.Heap.{BodyHere, HeapAccepted, IsCallersIfFixed, IsHeap, ManagersHere, Tiles, directory_of}
pub use Rattle.heap_model.specs.Layout.{Alters, Becomes, BeginsFree, Claims, FreeUpTo, IsFreeAt, IsPlain, IsRoom, IsSpot, WritesPlain, freed, gap, layout_of, merged, owned_freed, with_bytes, with_lock, with_owner}
pub use Rattle.heap_model.specs.Lending.{HoldsHeap, IsLentBody, LendsBodies, LendsNoneOf, LendsOther, LentHere}
pub use Rattle.heap_model.specs.Meaning.{LiveChunk, NamedHere}
pub use Rattle.heap_model.specs.Memory.{EachLent, IsAmong, IsWithin, Lent, Memory, Misses, without}
pub use Rattle.heap_model.specs.Placed.{AnyPlaced, EveryPlaced}
pub use Rattle.heap_model.specs.Placing.{Finds, NotFixedAs}
pub use Rattle.heap_model.specs.Reading.{chunk_at, chunks_of, held, size_field}
pub use Rattle.heap_model.specs.Resizing.{GrowsInPlace, Shrinks, behind_front, with_length}
pub use Rattle.heap_model.specs.Slots.{IsSlot, TablesLie, area_start, is_chained}
pub use Rattle.heap_model.specs.Space.{AllFree, NoRun, free_front, place_of, stays_put}
pub use Rattle.chunk_format.proofs.HeaderLaws.{size_by-header_of}
pub use Rattle.chunk_format.specs.Header.{HasHeader, HasLive, IsWritableHeader, Relocks, Reowns, h_offset_to, header_words, header_of, live_words, size_by}
pub use Rattle.chunk_format.specs.declared.header.Header.{Header}
pub use Rattle.laws_heap.proofs.AlteredChunks.{TiedAlike, body_written, claimed_fixed, finds_callers, finds_place, fixed_relabelled, movable_relabelled, overwritten_body, rewritten}
pub use Rattle.laws_heap.proofs.Chunks.{Spelled-same, Spelled-size, SpelledAll-end, SpelledAll-push, SpelledAll-same, SpelledAll-split, callers_body, movable_body, plain-callers, seen-movable, total-append}
pub use Rattle.laws_heap.proofs.ExchangedNames.{named_live_chunk}
pub use Rattle.laws_heap.proofs.Exchanges.{exchanges_parts, gap_free}
pub use Rattle.laws_heap.proofs.FixedNames.{fixed_has_name, fixed_live, fixed_live_is, fixed_name, fixed_name_is, fixed_not, fixed_owned, fixed_place}
pub use Rattle.laws_heap.proofs.FoundChunks.{InSlot, finds_body, finds_held, finds_read, finds_spelled, held_finds, in_slot, named_size, none_held, read_heap}
pub use Rattle.laws_heap.proofs.Frames.{SameBetween, SameBetween-then, length-overwritten, length-u32_bytes, slice-overwritten, slice-overwritten-within, slice-same, u32_at-written}
pub use Rattle.laws_heap.proofs.FreeChunks.{ClearsSlot, OtherSlots, claimed, free_replaced, free_sum, released}
pub use Rattle.laws_heap.proofs.Layouts.{IsNotFree, any-layout, merged-left, merged-live, merged-right, runs-merged}
pub use Rattle.laws_heap.proofs.Lending.{part_misses, part_within}
pub use Rattle.laws_heap.proofs.LentBodies.{LentChunk, all_free_loose, altered_lends, apart, becomes_lent, behind, body_within, each_of, each_to, found_within, header_misses, in_front, lent_chunk, loose_lends, named_not_free, one, other_lends, relocked_lends, reowned_lends, run_apart, run_within, same_lends, slot_still_within, some_gives, spot_within, stays_here, still_within, walked_misses}
pub use Rattle.laws_heap.proofs.Placed.{AnyPlaced-left, AnyPlaced-mid, AnyPlaced-parts, AnyPlaced-right, AnyPlaced-split, EveryPlaced-push, EveryPlaced-split, PlacedParts, SpelledAll-takes, TakesBytes}
pub use Rattle.laws_heap.proofs.Plain.{free_inside, free_plain, free_word, lives_plain, middle_plain, plain_same, plain_then, replaced_plain}
pub use Rattle.laws_heap.proofs.Replacements.{Replaces, any_replaced, replaced_tiles, replaced_total, same_start}
pub use Rattle.laws_heap.proofs.Resizings.{front_parts, grows_parts, length-sized_to, size_of-with_length}
pub use Rattle.laws_heap.proofs.Runs.{chunk_there, chunks_after, chunks_of-area, chunks_of-tiled}
pub use Rattle.laws_heap.proofs.SameLayouts.{becomes_alike, becomes_heap, becomes_start, frame_start, frame_then, same_frame}
pub use Rattle.laws_heap.proofs.Shapes.{chunk_at-none, chunk_at-spelled}
pub use Rattle.laws_heap.proofs.Slots.{HoldNoSlots, free_hold_none, slot_beside, slot_facts}
pub use Rattle.laws_heap.proofs.Tests.{cond-false, cond-true, true_or_false}
pub use Rattle.laws_heap.proofs.Writes.{WroteArea, WroteWithin, area_replaces, area_slots, beside_same, beside_word, table_kept, wrote_apart, wrote_head, wrote_none, wrote_part, wrote_slot, wrote_slots, wrote_then, wrote_wider, wrote_word, wrote_word_apart}
pub use Rattle.master_table.specs.Table.{HoldsNothing, HoldsPlace}
pub use Rattle.heap_place.specs.Found.{CanGoTo, IsFixed, IsFound, IsOne, NoSlotHolds, NoneBeginsAt, NoneFixedAs, NothingAt, found_if_fixed, found_if_movable, owned_by}
pub use Rattle.heap_place.specs.Gathers.{Before, Gathering}
pub use Rattle.heap_place.specs.Lists.{Any, AreLists, ButAt, Chain, CutsRoom, Fills, HasLists, IsFreeChunk, IsFreeOf, IsList, IsOfClass, KeepsFree, KeepsOne, Links, OnChain, Outside, Pushes, SameChunks, class_count, second_of}
pub use Rattle.heap_place.specs.Resizes.{BeginsWithFree, Ends, IsBound, Resizes, RunBehind, RunsUpTo, TellsWhetherInPlace, sized_header}
pub use Rattle.heap_place.specs.Search.{HaveFreeBytes, ChunksFrom, Emptied, Freeing, KeepsApart, NoneLentAmong, NoneOwned, Passed, Searched, StaysBelow, WroteRest, free_by, free_size_at, run_behind, run_by, size_if_free}
pub use Rattle.heap_place.specs.Splices.{LeadsTo, Looking, Walked}
pub use Rattle.heap_place.specs.declared.found.Found.{Found}

pub same_bytes : {m n : Memory} → m ≡ n → m.bytes ≡ n.bytes
same_bytes e = ap (λ (x : Memory). x.bytes) e

pub same_lents : {m n : Memory} → m ≡ n → m.lents ≡ n.lents
same_lents e = ap (λ (x : Memory). x.lents) e

pub same_lock : {x y : LiveChunk} → x ≡ y → x.lock ≡ y.lock
same_lock e = ap (λ (x : LiveChunk). x.lock) e

pub same_owner : {x y : LiveChunk} → x ≡ y → x.owner ≡ y.owner
same_owner e = ap (λ (x : LiveChunk). x.owner) e

pub same_length : {x y : LiveChunk} → x ≡ y → length x.bytes ≡ length y.bytes
same_length e = ap (λ (x : LiveChunk). length x.bytes) e

pub some_same : {A : Type 0} {x y : A} → Some x ≡ Some y → x ≡ y
some_same e = cc
