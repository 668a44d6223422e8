-- `put_blocks` writes the blocks in their order, by the laws of ExactPlaces and ExactWritten.
use Rattle.file_parts.proofs.AllLaws.{◌≡◌, ◌+◌, ◌<◌, ◌≤◌, List, ℕ, true, false, length, get_or, drop, ap, ◌∙◌, arith, block_bytes, then, stops, nothing, ExactFile, exact_block, blocks_of, blocks_from, blocks_none}
use Rattle.file_parts.proofs.ExactWritten.{blocks_whole}
use Rattle.file_parts.proofs.exact_writing.put_blocks.Goals as goal

pub loop-index-init : goal.loop-index-init
loop-index-init g c = λ new ok w.
    rw (blocks_whole (g.S.ExactSource.exact c.args.source.now)) at w

pub loop-index-preserved : goal.loop-index-preserved
loop-index-preserved g c = λ new ok w.
    let file : ExactFile = g.S.ExactSource.exact c.args.source.now in
    let ranks : List ℕ = (g.S.ExactSource.exact c.args.source.now).order in
    let i = c.loop-index.index in
    let long : length c.ranks-ranks.result.now ≡ length ranks =
    ap length c.ranks-ranks.ensures.are in
    let inside : i < length ranks = omega arith in
    let bytes : c.block.result.now ≡ block_bytes (exact_block file (get_or ranks i 0)) =
    c.block.ensures ∙ ap (λ (q : ℕ). block_bytes (exact_block file q)) c.rank_at-rank.ensures.is in
    c.loop-index.invariant new ok
    (rw (blocks_from file i inside)
    (then g.W.Write.contents c.loop-index.out c.put_all.new.out new _ _ ok
    (rw bytes at c.in-Ok.ensures) w))

pub returns-in-Err : goal.returns-in-Err
returns-in-Err g c =
    let file : ExactFile = g.S.ExactSource.exact c.args.source.now in
    let ranks : List ℕ = (g.S.ExactSource.exact c.args.source.now).order in
    let i = c.loop-index.index in
    let long : length c.ranks-ranks.result.now ≡ length ranks =
    ap length c.ranks-ranks.ensures.are in
    let inside : i < length ranks = omega arith in
    let bytes : c.block.result.now ≡ block_bytes (exact_block file (get_or ranks i 0)) =
    c.block.ensures ∙ ap (λ (q : ℕ). block_bytes (exact_block file q)) c.rank_at-rank.ensures.is in
    c.loop-index.invariant c.put_all.new.out false
    (rw (blocks_from file i inside) (stops g.W.Write.contents c.loop-index.out c.put_all.new.out _
    (blocks_of (exact_block file) (drop (i + 1) ranks)) (rw bytes at c.in-Err.ensures)))

pub returns : goal.returns
returns g c =
    let ranks : List ℕ = (g.S.ExactSource.exact c.args.source.now).order in
    let i = c.loop-index.index in
    let long : length c.ranks-ranks.result.now ≡ length ranks =
    ap length c.ranks-ranks.ensures.are in
    let past : length ranks ≤ i = omega arith in
    c.loop-index.invariant c.loop-index.out true
    (rw (blocks_none (g.S.ExactSource.exact c.args.source.now) i past)
    (nothing g.W.Write.contents c.loop-index.out))
