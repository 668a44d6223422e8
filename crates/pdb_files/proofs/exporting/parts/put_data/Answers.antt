-- `put_data` writes the data of the entries, or a prefix of it if a write fails.
use Rattle.pdb_files.proofs.Laws.{◌<◌, ◌≤◌, arith, true, false, entry_count_in, store_of, data_text, content_of, failed, then_data, stops_data, no_data, entry_own}
use Rattle.pdb_files.proofs.exporting.parts.put_data.Goals as goal

pub block-requires : goal.block-requires
block-requires g c =
    let below : c.loop-index.index < entry_count_in c.args.bytes.now = omega arith in
    entry_own c.args.store.now c.args.bytes.now c.loop-index.index c.entry_slot.result
    c.requires.names below c.entry_slot.ensures

pub returns-in_err-put_all : goal.returns-in_err-put_all
returns-in_err-put_all g c =
    let bytes = c.args.bytes.now in
    let i = c.loop-index.index in
    let below : i < entry_count_in bytes = omega arith in
    failed g.W.Write.contents c.args.out.now c.put_all.new.out
    (data_text (content_of c.args.store.now.bytes bytes).entries) c.from_residual.result
    c.from_residual.ensures.0 (c.loop-index.invariant.completed c.put_all.new.out false
    (stops_data g.W.Write.contents c.loop-index.out c.put_all.new.out
    (store_of c.args.store.now.bytes).map bytes i c.entry_slot.result c.block.result.now below
    c.entry_slot.ensures c.block.ensures c.in_err-put_all.ensures))

pub loop-index-preserved : goal.loop-index-preserved
loop-index-preserved g c =
    let bytes = c.args.bytes.now in
    let i = c.loop-index.index in
    let below : i < entry_count_in bytes = omega arith in
    record {
      completed = λ new ok behind. c.loop-index.invariant.completed new ok
          (then_data g.W.Write.contents c.loop-index.out c.put_all.new.out new
          (store_of c.args.store.now.bytes).map bytes i c.entry_slot.result c.block.result.now ok
          below c.entry_slot.ensures c.block.ensures c.in_ok-put_all.ensures behind);
    }

pub returns : goal.returns
returns g c =
    let past : entry_count_in c.args.bytes.now ≤ c.loop-index.index = omega arith in
    c.loop-index.invariant.completed c.loop-index.out true (no_data g.W.Write.contents
    c.loop-index.out (store_of c.args.store.now.bytes).map c.args.bytes.now c.loop-index.index past)
