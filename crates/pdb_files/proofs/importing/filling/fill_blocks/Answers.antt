-- The blocks before the index are in their chunks.
use Rattle.pdb_files.proofs.Laws.{◌≡◌, ◌+◌, ◌<◌, ℕ, List, Option, Some, None, length, map, get_or, sym, ap, subst, ◌∙◌, arith, rules, slice_range, length-map, get_or-map, Memory, LeavesStore, store_of, Name, bytes_at, Block, HasDataOf, data_filled, numbers_in, IsFilling, next_data, none_yet, one_more, none_more}
use Rattle.pdb_files.proofs.importing.filling.fill_blocks.Goals as goal
use Rattle.pdb_files.proofs.importing.filling.fill_blocks.Goals.{in-Some, in_default}

-- the block and the name of an index
block_at : (file : List ℕ) (blocks : List (Option Block)) (index : ℕ) (block : Option Block)
    → index < length blocks → get_or blocks index None ≡ block
    → get_or (map (bytes_at file) blocks) index None ≡ bytes_at file block
block_at file blocks index block inside is =
    get_or-map (bytes_at file) blocks index None None inside ∙ ap (bytes_at file) is

name_at : (names : List Name) (index : ℕ) (default : Name) → index < length names
    → get_or (numbers_in names) index 0 ≡ (get_or names index default).0
name_at names index default inside =
    get_or-map (λ (name : Name). name.0) names index default 0 inside

pub loop-index-init : goal.loop-index-init
loop-index-init c = none_yet c.args.store.now _ _ c.requires.accepted c.requires.zeros

pub fill_data-requires : goal.fill_data-requires
fill_data-requires c =
    let inside = c.loop-index-test.true in
    let long = c.requires.long in
    let many = length-map c.args.names.now (λ (name : Name). name.0) in
    let bytes : List ℕ = slice_range c.args.file.now c.in-Some.block.start c.in-Some.block.end in
    let is = block_at c.args.file.now c.args.blocks.now c.loop-index.index (Some c.in-Some.block)
    (omega arith) c.in-Some.is in
    subst (λ (xs : List ℕ). HasDataOf c.loop-index.store.bytes (get_or c.args.names.now
    c.loop-index.index (record { 0 = 0 })).0 (length xs)) (sym c.bytes_of.ensures)
    (subst (λ (name : ℕ). HasDataOf c.loop-index.store.bytes name (length bytes))
    (name_at c.args.names.now c.loop-index.index (record { 0 = 0 }) inside)
    (next_data c.loop-index.store.bytes _ (numbers_in c.args.names.now) c.loop-index.index bytes
    (omega arith) is c.loop-index.invariant.filled))

pub loop-index-preserved : goal.loop-index-preserved
loop-index-preserved c =
    let inside = c.loop-index-test.true in
    let long = c.requires.long in
    let many = length-map c.args.names.now (λ (name : Name). name.0) in
    let names : List ℕ = numbers_in c.args.names.now in
    let blocks : List (Option (List ℕ)) = map (bytes_at c.args.file.now) c.args.blocks.now in
    elim c.match-blocks-index.branch [
      | in-Some w ↦
          let bytes : List ℕ =
          slice_range c.args.file.now w.in-Some.block.start w.in-Some.block.end in
          let is = block_at c.args.file.now c.args.blocks.now c.loop-index.index
          (Some w.in-Some.block) (omega arith) w.in-Some.is in
          let filled = subst (λ (xs : List ℕ). LeavesStore c.loop-index.store.bytes
          w.fill_data.new.self.bytes (data_filled (store_of c.loop-index.store.bytes)
          (get_or c.args.names.now c.loop-index.index (record { 0 = 0 })).0 xs)) w.bytes_of.ensures
          w.fill_data.ensures.filled in
          let leaves = subst (λ (name : ℕ). LeavesStore c.loop-index.store.bytes
          w.fill_data.new.self.bytes (data_filled (store_of c.loop-index.store.bytes) name bytes))
          (sym (name_at c.args.names.now c.loop-index.index (record { 0 = 0 }) inside)) filled in
          subst (λ (store : Memory). IsFilling c.args.store.now store blocks names
          (c.loop-index.index + 1)) (sym w.store-is) (one_more c.args.store.now c.loop-index.store
          w.fill_data.new.self blocks names c.loop-index.index bytes c.requires.once (omega arith)
          is leaves w.fill_data.ensures.unmoved w.fill_data.ensures.kept c.loop-index.invariant)
      | in_default w ↦
          let is = block_at c.args.file.now c.args.blocks.now c.loop-index.index None (omega arith)
          (search rules) in
          subst (λ (store : Memory). IsFilling c.args.store.now store blocks names
          (c.loop-index.index + 1)) (sym w.store-is) (none_more c.args.store.now c.loop-index.store
          blocks names c.loop-index.index (omega arith) is c.loop-index.invariant)
    ]
