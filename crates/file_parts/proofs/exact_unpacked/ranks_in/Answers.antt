-- `ranks_in` returns the ranks of the blocks that a file has, ordered by their offsets, and at one
-- offset by rank, by the laws of ExactStarts.
use Rattle.file_parts.proofs.AllLaws.{◌≤◌, List, length, map, ap, ◌∙◌, arith, rules, take_all, IsNonDecreasingBy-from_sort_by_key, offsets_in, block_order, BlockStart, order_is}
use Rattle.file_parts.proofs.exact_unpacked.ranks_in.Goals as goal

pub returns-clause-order : goal.returns-clause-order
returns-clause-order g c =
    let items : List BlockStart = c.as_slice-start-items.result.now in
    let past : length items ≤ c.loop-start.start-index = omega arith in
    let named = c.loop-start.invariant ∙ ap (map (λ start. start.rank))
    (take_all c.loop-start.start-index items past ∙ c.as_slice-start-items.ensures.value) in
    order_is (offsets_in c.args.file.now) _ _ (search rules)
    (IsNonDecreasingBy-from_sort_by_key block_order _ c.sort_unstable_by_key.ensures.sorted
    (λ a r q k. search rules)) named
