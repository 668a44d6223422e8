-- `append_blocks` appends the blocks in their order.
use Rattle.file_parts.proofs.AllLaws.{◌≡◌, ◌<◌, ◌≤◌, ◌++◌, ℕ, List, Option, length, get_or, refl, ap, ◌∙◌, arith, take_all, data_in, database_listed, exact_block, exact_packed, rank_inside, blocks_whole, blocks_of}
use Rattle.file_parts.proofs.exact_packing.append_blocks.Goals as goal

pub block_of-requires-clause-inside : goal.block_of-requires-clause-inside
block_of-requires-clause-inside g c =
    let exact = c.args.exact.now in
    let good = c.requires.good in
    let count = c.requires.count in
    let blocks : List (Option (List ℕ)) = data_in (database_listed exact.listed) in
    let ranks : List ℕ = c.as_slice-rank-items.result.now in
    let i = c.loop-rank.rank-index in
    let within : i < length ranks = omega arith in
    let inside : get_or ranks i 0 < length blocks = rank_inside blocks exact.lines.order.items _ i
    (get_or ranks i 0) good.order (c.as_slice-rank-items.ensures.value ∙ good.ranks) within refl in
    omega arith

pub returns-clause-items : goal.returns-clause-items
returns-clause-items g c =
    let exact = c.args.exact.now in
    let parts = c.args.parts.now in
    let old : List ℕ = c.args.bytes.now.items in
    let ranks : List ℕ = exact.ranks.items in
    let i = c.loop-rank.rank-index in
    let long : length c.as_slice-rank-items.result.now ≡ length ranks =
    ap length c.as_slice-rank-items.ensures.value in
    let past : length ranks ≤ i = omega arith in
    c.loop-rank.invariant
    ∙ ap (λ (xs : List ℕ). old ++ blocks_of (exact_block (exact_packed exact parts)) xs) (take_all i
    ranks past) ∙ ap (λ (xs : List ℕ). old ++ xs) (blocks_whole exact parts c.requires.good)
