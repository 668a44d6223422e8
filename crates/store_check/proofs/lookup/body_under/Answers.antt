-- `body_under` returns the body of a chunk of the manager's, by the laws of LookupLaws.
use Rattle.store_check.proofs.Lemmas.{inl, arith, tiled_table, whole_table, owned_slot, managers_held, held_chunk, body_found, is_some_matched, matched_value}
use Rattle.store_check.proofs.lookup.body_under.Goals as goal

pub word_of-requires-clause-table : goal.word_of-requires-clause-table
word_of-requires-clause-table c =
    whole_table c.args.region.now c.requires.whole (tiled_table _ _ c.requires.accepted.1.tiles)

pub word_of-requires-clause-slot : goal.word_of-requires-clause-slot
word_of-requires-clause-slot c =
    owned_slot c.args.region.now.bytes c.args.slot c.requires.accepted (inl c.requires.managers)

pub overflow_sub-place : goal.overflow_sub-place
overflow_sub-place c = let low = (managers_held c.args.region.now.bytes c.args.slot c.word_of.result
    c.requires.accepted c.requires.managers c.word_of.ensures).behind_header in omega arith

pub at-requires-clause-chunk : goal.at-requires-clause-chunk
at-requires-clause-chunk c =
    held_chunk _ _ _ c.requires.accepted (managers_held c.args.region.now.bytes c.args.slot
    c.word_of.result c.requires.accepted c.requires.managers c.word_of.ensures)

pub unwrap-requires : goal.unwrap-requires
unwrap-requires c = is_some_matched _ c.as_movable.result
    (body_found c.args.region.now.bytes c.args.slot _ c.at.result c.as_movable.result
    c.requires.accepted c.at.ensures c.as_movable.ensures (managers_held c.args.region.now.bytes
    c.args.slot c.word_of.result c.requires.accepted c.requires.managers c.word_of.ensures))

pub returns : goal.returns
returns c = matched_value _ _ c.unwrap.result c.unwrap.ensures
    (body_found c.args.region.now.bytes c.args.slot _ c.at.result c.as_movable.result
    c.requires.accepted c.at.ensures c.as_movable.ensures (managers_held c.args.region.now.bytes
    c.args.slot c.word_of.result c.requires.accepted c.requires.managers c.word_of.ensures))
