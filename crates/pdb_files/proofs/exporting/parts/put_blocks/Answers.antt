-- `put_blocks` writes the blocks of a database, or a prefix of them if a write fails.
use Rattle.pdb_files.proofs.Laws.{ℕ, false, List, ◌++◌, Option, refl, ap, sym, ◌∙◌, is_ok, Database, ChunkMap, store_of, block_bytes, then, stops, data_text, content_of, blocks_text, app_block, sort_block, failed, as_blocks, app_own, sort_own}
use Rattle.pdb_files.proofs.exporting.parts.put_blocks.Goals as goal

pub block-requires : goal.block-requires
block-requires g c =
    app_own c.args.store.now c.args.bytes.now c.app_info.result c.requires.names c.app_info.ensures

pub block-requires-2 : goal.block-requires-2
block-requires-2 g c = sort_own c.args.store.now c.args.bytes.now c.sort_info.result
    c.requires.names c.sort_info.ensures

pub returns-in_err-put_all : goal.returns-in_err-put_all
returns-in_err-put_all g c =
    let chunks : ChunkMap = (store_of c.args.store.now.bytes).map in
    let d : Database (Option (List ℕ)) = content_of c.args.store.now.bytes c.args.bytes.now in
    let app = c.block.ensures ∙ ap block_bytes
    (sym (app_block chunks c.args.bytes.now c.app_info.result c.app_info.ensures)) in
    failed g.W.Write.contents c.args.out.now c.put_all.new.out
    (blocks_text d) c.from_residual.result c.from_residual.ensures.0 (as_blocks g.W.Write.contents
    c.args.out.now c.put_all.new.out d c.block.result.now (block_bytes d.sort_info) false app refl
    (stops g.W.Write.contents c.args.out.now c.put_all.new.out c.block.result.now
    (block_bytes d.sort_info ++ data_text d.entries) c.in_err-put_all.ensures))

pub returns-in_err-put_all-2 : goal.returns-in_err-put_all-2
returns-in_err-put_all-2 g c =
    let chunks : ChunkMap = (store_of c.args.store.now.bytes).map in
    let d : Database (Option (List ℕ)) = content_of c.args.store.now.bytes c.args.bytes.now in
    let app = c.block.ensures ∙ ap block_bytes
    (sym (app_block chunks c.args.bytes.now c.app_info.result c.app_info.ensures)) in
    let sort = c.block-2.ensures ∙ ap block_bytes
    (sym (sort_block chunks c.args.bytes.now c.sort_info.result c.sort_info.ensures)) in
    failed g.W.Write.contents c.args.out.now c.put_all-2.new.out (blocks_text d)
    c.from_residual-in_err-put_all-2.result c.from_residual-in_err-put_all-2.ensures.0
    (as_blocks g.W.Write.contents c.args.out.now c.put_all-2.new.out d c.block.result.now
    c.block-2.result.now false app sort (then g.W.Write.contents c.args.out.now c.put_all.new.out
    c.put_all-2.new.out c.block.result.now (c.block-2.result.now ++ data_text d.entries) false
    c.in_ok-put_all.ensures (stops g.W.Write.contents c.put_all.new.out c.put_all-2.new.out
    c.block-2.result.now (data_text d.entries) c.in_err-put_all-2.ensures)))

pub returns : goal.returns
returns g c =
    let chunks : ChunkMap = (store_of c.args.store.now.bytes).map in
    let d : Database (Option (List ℕ)) = content_of c.args.store.now.bytes c.args.bytes.now in
    let app = c.block.ensures ∙ ap block_bytes
    (sym (app_block chunks c.args.bytes.now c.app_info.result c.app_info.ensures)) in
    let sort = c.block-2.ensures ∙ ap block_bytes
    (sym (sort_block chunks c.args.bytes.now c.sort_info.result c.sort_info.ensures)) in
    let ok = is_ok c.put_data.result in
    as_blocks g.W.Write.contents c.args.out.now c.put_data.new.out d c.block.result.now
    c.block-2.result.now ok app sort
    (then g.W.Write.contents c.args.out.now c.put_all.new.out c.put_data.new.out c.block.result.now
    (c.block-2.result.now ++ data_text d.entries) ok c.in_ok-put_all.ensures
    (then g.W.Write.contents c.put_all.new.out c.put_all-2.new.out c.put_data.new.out
    c.block-2.result.now (data_text d.entries) ok c.in_ok-put_all-2.ensures c.put_data.ensures))
