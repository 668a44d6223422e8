-- `file_size` returns the length of the file of a database, by the laws of FileLengths.
use Rattle.pdb_files.proofs.Laws.{◌<◌, ◌≤◌, List, length, arith, ap, entry_count_in, database_in, store_of, data_text, content_of, size_parts, size_from, none_left, entry_own}
use Rattle.pdb_files.proofs.FileLengths.{length-file_of}
use Rattle.pdb_files.proofs.exporting.places.file_size.Goals as goal

pub loop-index-init : goal.loop-index-init
loop-index-init c =
    let size = size_parts (content_of c.args.store.now.bytes c.args.bytes.now) in
    omega (arith, size, c.find_places-size.ensures.«data»)

pub block_size-size-requires-clause-own : goal.block_size-size-requires-clause-own
block_size-size-requires-clause-own c =
    let below : c.loop-index.index < entry_count_in c.args.bytes.now = omega arith in
    entry_own c.args.store.now c.args.bytes.now c.loop-index.index c.entry_slot.result
    c.requires.names below c.entry_slot.ensures

pub block_size-size-requires-clause-short : goal.block_size-size-requires-clause-short
block_size-size-requires-clause-short c =
    let below : c.loop-index.index < entry_count_in c.args.bytes.now = omega arith in
    let left = size_from (store_of c.args.store.now.bytes).map c.args.bytes.now c.loop-index.index
    c.entry_slot.result below c.entry_slot.ensures in
    omega (arith, left, c.loop-index.invariant, c.requires.short)

pub overflow_add-size : goal.overflow_add-size
overflow_add-size c =
    let below : c.loop-index.index < entry_count_in c.args.bytes.now = omega arith in
    let left = size_from (store_of c.args.store.now.bytes).map c.args.bytes.now c.loop-index.index
    c.entry_slot.result below c.entry_slot.ensures in
    omega (arith, left, c.loop-index.invariant, c.requires.short)

pub loop-index-preserved : goal.loop-index-preserved
loop-index-preserved c =
    let below : c.loop-index.index < entry_count_in c.args.bytes.now = omega arith in
    let left = size_from (store_of c.args.store.now.bytes).map c.args.bytes.now c.loop-index.index
    c.entry_slot.result below c.entry_slot.ensures in
    omega (arith, left, c.loop-index.invariant)

pub returns : goal.returns
returns c =
    let past : entry_count_in c.args.bytes.now ≤ c.loop-index.index = omega arith in
    let none = ap (λ (es : List _). length (data_text es))
    (none_left (store_of c.args.store.now.bytes).map c.args.bytes.now c.loop-index.index past) in
    let long = length-file_of (store_of c.args.store.now.bytes).map
    (database_in c.args.bytes.now) c.requires.spelled.fits in
    omega (arith, none, long, c.loop-index.invariant)
