-- `managers_bytes` returns the bytes of a chunk of the manager's, by the laws of ReadingLaws.
use Rattle.heap_map.proofs.Laws.{◌+◌, ◌∙◌, ℕ, inl, ap, arith, slice_range, all_within, managers_held, live_is, live_there, bytes_there}
use Rattle.laws_heap.proofs.Slots.{tiled_table, whole_table}
use Rattle.laws_store.proofs.Owners.{owned_slot}
use Rattle.heap_map.proofs.reading.managers_bytes.Goals as goal

pub word_of-place-requires-clause-table : goal.word_of-place-requires-clause-table
word_of-place-requires-clause-table c =
    whole_table _ c.requires.whole (tiled_table _ _ c.requires.accepted.1.tiles)

pub word_of-place-requires-clause-slot : goal.word_of-place-requires-clause-slot
word_of-place-requires-clause-slot c = owned_slot _ _ c.requires.accepted (inl c.requires.managers)

pub overflow_sub-place : goal.overflow_sub-place
overflow_sub-place c = let low = (managers_held _ _ _ c.requires.accepted c.requires.managers
    c.word_of-place.ensures).behind_header in omega arith

pub live_fields-length-requires-clause-live : goal.live_fields-length-requires-clause-live
live_fields-length-requires-clause-live c = live_there _ _ _ c.requires.accepted
    (managers_held _ _ _ c.requires.accepted c.requires.managers c.word_of-place.ensures)

pub slice-requires : goal.slice-requires
slice-requires c =
    let image = c.args.region.now.bytes in
    let s = managers_held _ _ _ c.requires.accepted c.requires.managers c.word_of-place.ensures in
    let live = live_is image c.args.slot c.word_of-place.result c.requires.accepted s in
    let long =
    (c.live_fields-length.ensures s.live.bytes s.live.lock s.live.owner live.0 live.1).0 in
    let inside = (bytes_there image c.args.slot c.word_of-place.result c.requires.accepted s).1 in
    all_within _ _ _ c.requires.whole (omega (arith, long, inside))

pub returns : goal.returns
returns c =
    let image = c.args.region.now.bytes in
    let place = c.word_of-place.result in
    let s = managers_held _ _ _ c.requires.accepted c.requires.managers c.word_of-place.ensures in
    let live = live_is image c.args.slot place c.requires.accepted s in
    let long =
    (c.live_fields-length.ensures s.live.bytes s.live.lock s.live.owner live.0 live.1).0 in
    c.slice.ensures ∙ ap (λ n. slice_range image place (place + n)) long
    ∙ (bytes_there _ _ _ c.requires.accepted s).0
