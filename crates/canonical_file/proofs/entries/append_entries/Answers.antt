-- `append_entries` appends the entries to a vector that has room for them, by the laws of
-- FileBlocks, ReadFiles and Appended.
use Rattle.std.proofs.Common.{◌≡◌, ◌+◌, ◌<◌, ◌≤◌, ◌++◌, ℕ, None, List, Option, length, get_or, drop, vec_len, vec_capacity, refl, sym, ap, ◌∙◌, arith, append-nil}
use Rattle.std.specs.List.{sum_by}
use Rattle.std.proofs.lemmas.List.{drop_all}
use Rattle.std.proofs.lemmas.List.Sums.{sum_by-drop_more}
use Rattle.heap_model.specs.Database.{Entry, entry_count_in, entry_bytes}
use Rattle.pdb_format.specs.Blocks.{length_within}
use Rattle.pdb_format.specs.declared.blocks.Block.{Block}
use Rattle.pdb_format.specs.FileTexts.{entries_text}
use Rattle.pdb_format.specs.ReadFiles.{entries_read}
use Rattle.pdb_format.proofs.FileBlocks.{length-blocks, block_of}
use Rattle.pdb_format.proofs.ReadFiles.{length-entries_read}
use Rattle.canonical_file.specs.Written.{ids_of}
use Rattle.canonical_file.proofs.Appended.{text_more, length_more, room_left}
use Rattle.pdb_format.proofs.FileBlocks.{block_long}
use Rattle.canonical_file.proofs.EntryTexts.{entry_here}
use Rattle.canonical_file.proofs.entries.append_entries.Goals as goal

pub loop-index-init : goal.loop-index-init
loop-index-init g c =
    let same = ap (λ (blocks : List (Option Block)). sum_by length_within (drop 2 blocks))
    c.blocks-blocks.ensures.places.places in
    let fits = c.requires.fits in
    record {
      short = omega arith;
      text = refl;
      len = refl;
      capacity = omega arith;
    }

pub bounds-blocks-index : goal.bounds-blocks-index
bounds-blocks-index g c =
    let below : c.loop-index.index < entry_count_in c.args.file.now = omega arith in
    let long = length-blocks c.args.file.now c.blocks-blocks.result.now
    c.blocks-blocks.ensures.places.are in
    omega arith

pub entry_at-requires-clause-block : goal.entry_at-requires-clause-block
entry_at-requires-clause-block g c =
    let below : c.loop-index.index < entry_count_in c.args.file.now = omega arith in
    let long = length-blocks c.args.file.now c.blocks-blocks.result.now
    c.blocks-blocks.ensures.places.are in
    block_of c.args.file.now c.blocks-blocks.result.now
    (2 + c.loop-index.index) c.blocks-blocks.ensures.places.are (omega arith)

pub append-requires : goal.append-requires
append-requires g c =
    let file = c.args.file.now in
    let blocks = c.blocks-blocks.result.now in
    let i = c.loop-index.index in
    let below : i < entry_count_in file = omega arith in
    let long = length-blocks file blocks c.blocks-blocks.ensures.places.are in
    let is_block = block_of file blocks (2 + i) c.blocks-blocks.ensures.places.are (omega arith) in
    let is = c.as_slice.ensures ∙ c.to_bytes.ensures.is ∙ ap entry_bytes c.entry_at.ensures.is in
    let parts = entry_here file (ids_of file c.args.ids) i c.loop-index.at
    (length_within (get_or blocks (2 + i) None)) c.as_slice.result.now _ below is is_block
    (block_long file (get_or blocks (2 + i) None)
    (c.blocks-blocks.ensures.places.within (2 + i) None (omega arith))) in
    let old = c.loop-index.invariant.capacity in
    let room = c.requires.room in
    room_left (vec_len c.loop-index.bytes) _ (vec_capacity c.loop-index.bytes) c.as_slice.result.now
    _ _ parts c.loop-index.invariant.len (omega arith)

pub overflow_add-at : goal.overflow_add-at
overflow_add-at g c =
    let blocks = c.blocks-blocks.result.now in
    let i = c.loop-index.index in
    let below : i < entry_count_in c.args.file.now = omega arith in
    let long = length-blocks c.args.file.now blocks c.blocks-blocks.ensures.places.are in
    let more = sum_by-drop_more length_within blocks (2 + i) None (omega arith) in
    omega (arith, more, c.loop-index.invariant.short, c.block_length.ensures)

pub overflow_cast-at : goal.overflow_cast-at
overflow_cast-at g c =
    let blocks = c.blocks-blocks.result.now in
    let i = c.loop-index.index in
    let below : i < entry_count_in c.args.file.now = omega arith in
    let long = length-blocks c.args.file.now blocks c.blocks-blocks.ensures.places.are in
    let more = sum_by-drop_more length_within blocks (2 + i) None (omega arith) in
    omega (arith, more, c.loop-index.invariant.short, c.block_length.ensures)

pub loop-index-preserved : goal.loop-index-preserved
loop-index-preserved g c =
    let file = c.args.file.now in
    let ids = ids_of file c.args.ids in
    let blocks = c.blocks-blocks.result.now in
    let i = c.loop-index.index in
    let at = c.loop-index.at in
    let size = c.block_length.result in
    let below : i < entry_count_in file = omega arith in
    let long = length-blocks file blocks c.blocks-blocks.ensures.places.are in
    let is_block = block_of file blocks (2 + i) c.blocks-blocks.ensures.places.are (omega arith) in
    let is = c.as_slice.ensures ∙ c.to_bytes.ensures.is ∙ ap entry_bytes c.entry_at.ensures.is in
    let is_size = block_long file (get_or blocks (2 + i) None)
    (c.blocks-blocks.ensures.places.within (2 + i) None (omega arith)) ∙ sym c.block_length.ensures in
    let parts = entry_here file ids i at size c.as_slice.result.now _ below is is_block is_size in
    let behind = entries_text (at + size) (drop (i + 1) (entries_read file ids)) in
    let sum = sum_by-drop_more length_within blocks (2 + i) None (omega arith) in
    let len = length_more
    (vec_len c.loop-index.bytes) _ c.as_slice.result.now _ behind parts c.loop-index.invariant.len in
    let low = c.loop-index.invariant.short in
    let before = c.loop-index.invariant.capacity in
    let kept = c.append.ensures.capacity in
    let added = c.append.ensures.len in
    let took = c.block_length.ensures in
    let next : 2 + (i + 1) ≡ 2 + i + 1 = omega arith in
    let sums = ap (λ (n : ℕ). sum_by length_within (drop n blocks)) next in
    record {
      short = omega arith;
      text = ap (λ (xs : List ℕ). xs ++ behind) c.append.ensures.items
          ∙ text_more c.loop-index.bytes.items c.as_slice.result.now _ behind _ parts
          c.loop-index.invariant.text;
      len = omega arith;
      capacity = omega arith;
    }

pub returns-clause-items : goal.returns-clause-items
returns-clause-items g c =
    let es = entries_read c.args.file.now (ids_of c.args.file.now c.args.ids) in
    let count = length-entries_read c.args.file.now (ids_of c.args.file.now c.args.ids) in
    let past : length es ≤ c.loop-index.index = omega arith in
    sym (append-nil c.loop-index.bytes.items)
    ∙ ap (λ (xs : List (Entry (Option (List ℕ)))).
    c.loop-index.bytes.items ++ entries_text c.loop-index.at xs)
    (sym (drop_all c.loop-index.index es past))
    ∙ c.loop-index.invariant.text

pub returns-clause-len : goal.returns-clause-len
returns-clause-len g c =
    let es = entries_read c.args.file.now (ids_of c.args.file.now c.args.ids) in
    let count = length-entries_read c.args.file.now (ids_of c.args.file.now c.args.ids) in
    let past : length es ≤ c.loop-index.index = omega arith in
    let none =
    ap (λ (xs : List (Entry (Option (List ℕ)))). length (entries_text c.loop-index.at xs))
    (drop_all c.loop-index.index es past) in
    omega (arith, none, c.loop-index.invariant.len)
