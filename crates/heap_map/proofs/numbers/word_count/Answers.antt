-- `word_count` returns the number of words that can be slots, with one table and with a chain.
use Rattle.heap_map.proofs.Words.{◌≡◌, ◌/◌, length, sym, arith, all_within, chained_words, chained_room, plain_room}
use Rattle.heap_map.proofs.numbers.word_count.Goals as goal

pub returns-then-is_chained-clause-room : goal.returns-then-is_chained-clause-room
returns-then-is_chained-clause-room c =
    let fits = c.requires.accepted.1.tiles.head.a_chunk_fits in
    chained_room _ _ c.requires.accepted
    (chained_words c.args.region.now.bytes _ (sym c.if-is_chained.ensures)
    (c.marks_needed.ensures.exact (all_within _ 0 16 c.requires.whole (omega arith))))

pub returns-then-is_chained-clause-most : goal.returns-then-is_chained-clause-most
returns-then-is_chained-clause-most c =
    let fits = c.requires.accepted.1.tiles.head.a_chunk_fits in
    let words = chained_words c.args.region.now.bytes _ (sym c.if-is_chained.ensures)
    (c.marks_needed.ensures.exact (all_within _ 0 16 c.requires.whole (omega arith))) in
    omega arith

pub returns-else-is_chained-clause-room : goal.returns-else-is_chained-clause-room
returns-else-is_chained-clause-room c =
    plain_room _ _ (sym c.if-is_chained.ensures) c.slot_count.ensures

pub returns-else-is_chained-clause-most : goal.returns-else-is_chained-clause-most
returns-else-is_chained-clause-most c =
    let fits = c.requires.accepted.1.tiles.head.a_chunk_fits in
    let count = c.slot_count.ensures in
    omega arith
