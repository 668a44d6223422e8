-- `place_ranks` writes the offset of each block to the place of its rank, and returns the size of
-- the file, by the laws of ExactInside, ExactPacked, ExactPlaces and PackedFiles.
use Rattle.file_parts.proofs.AllLaws.{◌≡◌, ◌+◌, ◌<◌, ◌≤◌, ℕ, List, Option, length, ap, ◌∙◌, arith, length-replicate, take_all, times, data_in, database_listed, ExactFile, exact_block, exact_size, exact_packed, ranks_once, blocks_whole, offsets_are, size_is, placed_next, placed_none, size_before, refused_more}
use Rattle.file_parts.proofs.exact_packing.place_ranks.Goals as goal

pub loop-index-init : goal.loop-index-init
loop-index-init c =
    let file : ExactFile = exact_packed c.args.exact.now c.args.parts.now in
    let count : ℕ = length (data_in (database_listed c.args.exact.now.listed)) in
    record {
      placed = placed_none (exact_block file) _ count _ _ c.requires.none c.requires.first;
      room = ap (λ (xs : List ℕ). length xs) c.requires.none ∙ length-replicate count 0;
      most = c.requires.most;
    }

pub loop-index-preserved : goal.loop-index-preserved
loop-index-preserved c =
    let exact = c.args.exact.now in
    let file : ExactFile = exact_packed exact c.args.parts.now in
    let good = c.requires.parts.good in
    let blocks : List (Option (List ℕ)) = data_in (database_listed exact.listed) in
    let ranks : List ℕ = exact.ranks.items in
    let i = c.loop-index.index in
    let rank = c.rank_at-rank.result in
    let long : length c.as_slice-ranks.result.now ≡ length ranks =
    ap length c.as_slice-ranks.ensures.value in
    let within : i < length ranks = omega arith in
    let once : times rank ranks ≤ 1 =
    rw good.ranks (ranks_once blocks exact.lines.order.items good.order rank) in
    let next = placed_next _ _ _ ranks _ _ i _ _ _ c.loop-index.invariant.placed within
    c.rank_at-rank.ensures.is c.rank_at-rank.ensures.there once c.block_of.ensures
    c.in-Ok.ensures.is in
    record {
      placed = next;
      room = next.room;
      most = c.in-Ok.ensures.most;
    }

pub returns-in-Err-clause-large : goal.returns-in-Err-clause-large
returns-in-Err-clause-large c =
    let exact = c.args.exact.now in
    let parts = c.args.parts.now in
    let file : ExactFile = exact_packed exact parts in
    let ranks : List ℕ = exact.ranks.items in
    let i = c.loop-index.index in
    let long : length c.as_slice-ranks.result.now ≡ length ranks =
    ap length c.as_slice-ranks.ensures.value in
    let within : i < length ranks = omega arith in
    let size = size_before (exact_block file) ranks _ i _ within c.rank_at-rank.ensures.is
    c.block_of.ensures in
    let end = c.loop-index.invariant.placed.end in
    let whole = ap (λ (xs : List ℕ). length xs) (blocks_whole exact parts c.requires.parts.good) in
    refused_more (c.loop-index.at + length c.block_of.result.now) (exact_size file) c.in-Err.fault
    (omega (arith, size, end, whole)) c.in-Err.ensures.large

pub returns-clause-are : goal.returns-clause-are
returns-clause-are c =
    let exact = c.args.exact.now in
    let file : ExactFile = exact_packed exact c.args.parts.now in
    let ranks : List ℕ = exact.ranks.items in
    let i = c.loop-index.index in
    let long : length c.as_slice-ranks.result.now ≡ length ranks =
    ap length c.as_slice-ranks.ensures.value in
    let past : length ranks ≤ i = omega arith in
    offsets_are exact c.args.parts.now c.loop-index.offsets c.loop-index.at c.requires.parts.good
    (rw (take_all i ranks past) at c.loop-index.invariant.placed)

pub returns-clause-size : goal.returns-clause-size
returns-clause-size c =
    let exact = c.args.exact.now in
    let file : ExactFile = exact_packed exact c.args.parts.now in
    let ranks : List ℕ = exact.ranks.items in
    let i = c.loop-index.index in
    let long : length c.as_slice-ranks.result.now ≡ length ranks =
    ap length c.as_slice-ranks.ensures.value in
    let past : length ranks ≤ i = omega arith in
    size_is exact c.args.parts.now c.loop-index.offsets c.loop-index.at c.requires.parts.good
    (rw (take_all i ranks past) at c.loop-index.invariant.placed)
