-- `put_entries` writes the entries with their offsets, or a prefix of them if a write fails.
use Rattle.pdb_files.proofs.Laws.{◌≡◌, ◌<◌, ◌≤◌, arith, true, false, ◌∙◌, ap, entry_data, entry_bytes, entry_count_in, entry_in, ChunkMap, bytes_named, store_of, block_size, entries_text, content_of, file_entry, failed, size_from, then_entry, stops_entry, no_entry, entry_own}
use Rattle.pdb_files.proofs.exporting.parts.put_entries.Goals as goal

pub block_size-size-requires-clause-own : goal.block_size-size-requires-clause-own
block_size-size-requires-clause-own g c =
    let below : c.loop-index.index < entry_count_in c.args.bytes.now = omega arith in
    entry_own c.args.store.now c.args.bytes.now c.loop-index.index c.slot.result c.requires.names
    below (c.slot.ensures ∙ ap entry_data c.read-entry.ensures.is)

pub block_size-size-requires-clause-short : goal.block_size-size-requires-clause-short
block_size-size-requires-clause-short g c =
    let below : c.loop-index.index < entry_count_in c.args.bytes.now = omega arith in
    let left = size_from (store_of c.args.store.now.bytes).map c.args.bytes.now c.loop-index.index
    c.slot.result below (c.slot.ensures ∙ ap entry_data c.read-entry.ensures.is) in
    omega (arith, left, c.loop-index.invariant.left)

pub overflow_add-at : goal.overflow_add-at
overflow_add-at g c =
    let below : c.loop-index.index < entry_count_in c.args.bytes.now = omega arith in
    let left = size_from (store_of c.args.store.now.bytes).map c.args.bytes.now c.loop-index.index
    c.slot.result below (c.slot.ensures ∙ ap entry_data c.read-entry.ensures.is) in
    omega (arith, left, c.loop-index.invariant.left)

pub returns-in_err-put_all : goal.returns-in_err-put_all
returns-in_err-put_all g c =
    let bytes = c.args.bytes.now in
    let chunks : ChunkMap = (store_of c.args.store.now.bytes).map in
    let i = c.loop-index.index in
    let below : i < entry_count_in bytes = omega arith in
    let is =
    c.as_slice.ensures ∙ c.to_bytes.ensures.is ∙ ap entry_bytes (c.in_file.ensures.is chunks
    ∙ ap (file_entry chunks c.loop-index.at) c.read-entry.ensures.is) in
    failed g.W.Write.contents c.args.out.now c.put_all.new.out
    (entries_text c.args.first (content_of c.args.store.now.bytes bytes).entries)
    c.from_residual.result c.from_residual.ensures.0 (c.loop-index.invariant.completed
    c.put_all.new.out false (stops_entry g.W.Write.contents c.loop-index.out c.put_all.new.out
    chunks bytes c.loop-index.at i c.as_slice.result.now below is c.in_err-put_all.ensures))

pub loop-index-preserved : goal.loop-index-preserved
loop-index-preserved g c =
    let bytes = c.args.bytes.now in
    let chunks : ChunkMap = (store_of c.args.store.now.bytes).map in
    let i = c.loop-index.index in
    let below : i < entry_count_in bytes = omega arith in
    let slot = c.slot.ensures ∙ ap entry_data c.read-entry.ensures.is in
    let left = size_from chunks bytes i c.slot.result below slot in
    let long : c.block_size-size.result ≡ block_size (bytes_named chunks
    (entry_data (entry_in bytes i))) = rw (← slot) c.block_size-size.ensures in
    let is =
    c.as_slice.ensures ∙ c.to_bytes.ensures.is ∙ ap entry_bytes (c.in_file.ensures.is chunks
    ∙ ap (file_entry chunks c.loop-index.at) c.read-entry.ensures.is) in
    record {
      left = omega (arith, left, c.loop-index.invariant.left, c.block_size-size.ensures);
      completed = λ new ok behind. c.loop-index.invariant.completed new ok
          (then_entry g.W.Write.contents c.loop-index.out c.put_all.new.out new chunks bytes
          c.loop-index.at i c.block_size-size.result c.as_slice.result.now ok below is long
          c.in_ok-put_all.ensures behind);
    }

pub returns : goal.returns
returns g c =
    let past : entry_count_in c.args.bytes.now ≤ c.loop-index.index = omega arith in
    c.loop-index.invariant.completed c.loop-index.out true
    (no_entry g.W.Write.contents c.loop-index.out
    (store_of c.args.store.now.bytes).map c.args.bytes.now c.loop-index.at c.loop-index.index past)
