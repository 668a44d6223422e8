-- `find_places` returns the offsets of the blocks in the file of a database.
use Rattle.pdb_files.proofs.Laws.{◌≡◌, ℕ, ◌+◌, List, Option, arith, sym, ap, ◌∙◌, Database, ChunkMap, store_of, block_size, first_block, block_under, content_of, size_parts, app_block, sort_block, same_offset, app_own, sort_own}
use Rattle.pdb_files.proofs.exporting.places.find_places.Goals as goal

pub block_size-requires-clause-own : goal.block_size-requires-clause-own
block_size-requires-clause-own c = app_own c.args.store.now c.args.bytes.now
    c.app_info-app_info.result c.requires.names c.app_info-app_info.ensures

pub block_size-requires-clause-short : goal.block_size-requires-clause-short
block_size-requires-clause-short c =
    let d : Database (Option (List ℕ)) = content_of c.args.store.now.bytes c.args.bytes.now in
    let app = ap block_size (app_block (store_of c.args.store.now.bytes).map c.args.bytes.now
    c.app_info-app_info.result c.app_info-app_info.ensures) in
    omega (arith, size_parts d, app, c.requires.short)

pub overflow_add-sort_at : goal.overflow_add-sort_at
overflow_add-sort_at c =
    let d : Database (Option (List ℕ)) = content_of c.args.store.now.bytes c.args.bytes.now in
    let app = ap block_size (app_block (store_of c.args.store.now.bytes).map c.args.bytes.now
    c.app_info-app_info.result c.app_info-app_info.ensures) in
    omega
    (arith, size_parts d, app, c.requires.short, c.block_size.ensures, c.first_block-app_at.ensures)

pub block_size-requires-2-clause-own : goal.block_size-requires-2-clause-own
block_size-requires-2-clause-own c = sort_own c.args.store.now c.args.bytes.now
    c.sort_info-sort_info.result c.requires.names c.sort_info-sort_info.ensures

pub block_size-requires-2-clause-short : goal.block_size-requires-2-clause-short
block_size-requires-2-clause-short c =
    let d : Database (Option (List ℕ)) = content_of c.args.store.now.bytes c.args.bytes.now in
    let sort = ap block_size (sort_block (store_of c.args.store.now.bytes).map c.args.bytes.now
    c.sort_info-sort_info.result c.sort_info-sort_info.ensures) in
    omega (arith, size_parts d, sort, c.requires.short)

pub overflow_add-result : goal.overflow_add-result
overflow_add-result c =
    let d : Database (Option (List ℕ)) = content_of c.args.store.now.bytes c.args.bytes.now in
    let app = ap block_size (app_block (store_of c.args.store.now.bytes).map c.args.bytes.now
    c.app_info-app_info.result c.app_info-app_info.ensures) in
    let sort = ap block_size (sort_block (store_of c.args.store.now.bytes).map c.args.bytes.now
    c.sort_info-sort_info.result c.sort_info-sort_info.ensures) in
    omega (arith, size_parts d, app, sort, c.requires.short)

pub returns : goal.returns
returns c =
    let chunks : ChunkMap = (store_of c.args.store.now.bytes).map in
    let d : Database (Option (List ℕ)) = content_of c.args.store.now.bytes c.args.bytes.now in
    let app = sym
    (app_block chunks c.args.bytes.now c.app_info-app_info.result c.app_info-app_info.ensures) in
    let sort = sym (sort_block chunks c.args.bytes.now c.sort_info-sort_info.result
    c.sort_info-sort_info.ensures) in
    let first = c.first_block-app_at.ensures in
    let app_size = c.block_size.ensures ∙ ap block_size app in
    let sort_size = c.block_size-2.ensures ∙ ap block_size sort in
    let behind : c.first_block-app_at.result + c.block_size.result
    ≡ first_block d + block_size d.app_info = omega (arith, first, app_size) in
    record {
      app_info =
          c.block_offset.ensures chunks ∙ same_offset c.first_block-app_at.result (first_block d)
          (block_under c.args.store.now.bytes c.app_info-app_info.result) d.app_info first app;
      sort_info = c.block_offset-2.ensures chunks ∙ same_offset (c.first_block-app_at.result
          + c.block_size.result) (first_block d + block_size d.app_info)
          (block_under c.args.store.now.bytes c.sort_info-sort_info.result) d.sort_info behind sort;
      «data» = omega (arith, first, app_size, sort_size);
    }
