-- `put_blocks` writes the blocks in their order.
use Rattle.file_parts.proofs.AllLaws.{◌≡◌, ◌+◌, ◌<◌, ◌≤◌, List, ℕ, Option, true, false, length, get_or, drop, refl, ap, ◌∙◌, arith, drop_all, data_in, block_bytes, then, stops, nothing, database_listed, ExactFile, exact_block, exact_packed, rank_inside, blocks_whole, blocks_of, rest_from}
use Rattle.file_parts.proofs.exact_packing.put_blocks.Goals as goal

pub loop-rank-init : goal.loop-rank-init
loop-rank-init g c = λ new ok w.
    rw (blocks_whole c.args.exact.now c.args.parts.now c.requires.good) at w

pub block_of-requires-clause-inside : goal.block_of-requires-clause-inside
block_of-requires-clause-inside g c =
    let exact = c.args.exact.now in
    let good = c.requires.good in
    let count = c.requires.count in
    let blocks : List (Option (List ℕ)) = data_in (database_listed exact.listed) in
    let ranks : List ℕ = c.as_slice-rank-items.result.now in
    let i = c.loop-rank.rank-index in
    let within : i < length ranks = omega arith in
    let inside : get_or ranks i 0 < length blocks = rank_inside blocks exact.lines.order.items _ i
    (get_or ranks i 0) good.order (c.as_slice-rank-items.ensures.value ∙ good.ranks) within refl in
    omega arith

pub loop-rank-preserved : goal.loop-rank-preserved
loop-rank-preserved g c = λ new ok w.
    let exact = c.args.exact.now in
    let file : ExactFile = exact_packed exact c.args.parts.now in
    let ranks : List ℕ = exact.ranks.items in
    let i = c.loop-rank.rank-index in
    let same = c.as_slice-rank-items.ensures.value in
    let long : length c.as_slice-rank-items.result.now ≡ length ranks = ap length same in
    let inside : i < length ranks = omega arith in
    let bytes : c.block_of.result.now ≡ block_bytes (exact_block file (get_or ranks i 0)) =
    c.block_of.ensures
    ∙ ap (λ (xs : List ℕ). block_bytes (exact_block file (get_or xs i 0))) same in
    c.loop-rank.invariant new ok
    (rw (rest_from ranks i inside)
    (then g.W.Write.contents c.loop-rank.out c.put_all.new.out new _ _ ok
    (rw bytes at c.in-Ok.ensures) w))

pub returns-in-Err : goal.returns-in-Err
returns-in-Err g c =
    let exact = c.args.exact.now in
    let file : ExactFile = exact_packed exact c.args.parts.now in
    let ranks : List ℕ = exact.ranks.items in
    let i = c.loop-rank.rank-index in
    let same = c.as_slice-rank-items.ensures.value in
    let long : length c.as_slice-rank-items.result.now ≡ length ranks = ap length same in
    let inside : i < length ranks = omega arith in
    let bytes : c.block_of.result.now ≡ block_bytes (exact_block file (get_or ranks i 0)) =
    c.block_of.ensures
    ∙ ap (λ (xs : List ℕ). block_bytes (exact_block file (get_or xs i 0))) same in
    c.loop-rank.invariant c.put_all.new.out false
    (rw (rest_from ranks i inside) (stops g.W.Write.contents c.loop-rank.out c.put_all.new.out _
    (blocks_of (exact_block file) (drop (i + 1) ranks)) (rw bytes at c.in-Err.ensures)))

pub returns : goal.returns
returns g c =
    let exact = c.args.exact.now in
    let file : ExactFile = exact_packed exact c.args.parts.now in
    let ranks : List ℕ = exact.ranks.items in
    let i = c.loop-rank.rank-index in
    let long : length c.as_slice-rank-items.result.now ≡ length ranks =
    ap length c.as_slice-rank-items.ensures.value in
    let past : length ranks ≤ i = omega arith in
    c.loop-rank.invariant c.loop-rank.out true
    (rw (drop_all i ranks past) (nothing g.W.Write.contents c.loop-rank.out))
