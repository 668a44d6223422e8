-- `append_blocks` appends the blocks to a vector that has room for them, by the laws of Appended
-- and BlockTexts.
use Rattle.std.proofs.Common.{◌+◌, ◌<◌, ◌≤◌, ◌++◌, ℕ, List, length, drop, vec_len, vec_capacity, sym, ap, ◌∙◌, arith, rules, append-nil}
use Rattle.std.proofs.lemmas.List.{drop_all}
use Rattle.canonical_file.specs.Canonical.{blocks_at}
use Rattle.canonical_file.proofs.Appended.{text_more, length_more, room_left}
use Rattle.canonical_file.proofs.BlockTexts.{block_here}
use Rattle.canonical_file.proofs.blocks.append_blocks.Goals as goal

pub append-requires : goal.append-requires
append-requires c =
    let inside : c.loop-index.index < length c.args.blocks.now = search rules in
    let parts = block_here c.args.source.now c.args.blocks.now c.loop-index.index
    c.block_bytes.result.now inside c.block_bytes.ensures in
    let old = c.loop-index.invariant.capacity in
    let room = c.requires.room in
    room_left (vec_len c.loop-index.bytes) _ (vec_capacity c.loop-index.bytes)
    c.block_bytes.result.now _ _ parts c.loop-index.invariant.len (omega arith)

pub loop-index-preserved : goal.loop-index-preserved
loop-index-preserved c =
    let inside : c.loop-index.index < length c.args.blocks.now = search rules in
    let more = c.block_bytes.result.now in
    let behind = blocks_at c.args.source.now (drop (c.loop-index.index + 1) c.args.blocks.now) in
    let parts = block_here c.args.source.now c.args.blocks.now c.loop-index.index more inside
    c.block_bytes.ensures in
    let len =
    length_more (vec_len c.loop-index.bytes) _ more _ _ parts c.loop-index.invariant.len in
    let long = c.append.ensures.len in
    let kept = c.append.ensures.capacity in
    let before = c.loop-index.invariant.capacity in
    record {
      text = ap (λ (xs : List ℕ). xs ++ behind) c.append.ensures.items
          ∙ text_more c.loop-index.bytes.items more _ behind _ parts c.loop-index.invariant.text;
      len = omega arith;
      capacity = omega arith;
    }

pub returns : goal.returns
returns c =
    let past : length c.args.blocks.now ≤ c.loop-index.index = omega arith in
    sym (append-nil c.loop-index.bytes.items)
    ∙ ap (λ (xs : List ℕ). c.loop-index.bytes.items ++ xs)
    (sym (ap (blocks_at c.args.source.now) (drop_all c.loop-index.index c.args.blocks.now past)))
    ∙ c.loop-index.invariant.text
