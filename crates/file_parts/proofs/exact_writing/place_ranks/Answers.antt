-- `place_ranks` writes the offset of each block to the place of its rank, and returns the size of
-- the file, by the laws of ExactPlaces and ExactWritten.
use Rattle.file_parts.proofs.AllLaws.{◌≡◌, ◌+◌, ◌<◌, ◌≤◌, ℕ, List, length, ap, ◌∙◌, arith, length-replicate, take_all, data_in, ExactFile, exact_block, exact_size, exact_start, ArePlaced, placed_next, placed_none, size_before, place_fault, size_placed}
use Rattle.file_parts.proofs.ExactWritten.{blocks_whole, offsets_are}
use Rattle.file_parts.proofs.exact_writing.place_ranks.Goals as goal

pub loop-index-init : goal.loop-index-init
loop-index-init g c =
    let file : ExactFile = g.S.ExactSource.exact c.args.source.now in
    let count : ℕ = length (data_in file.database) in
    record {
      placed = placed_none (exact_block file) _ count _ _ c.requires.none c.requires.first;
      room = ap (λ (xs : List ℕ). length xs) c.requires.none ∙ length-replicate count 0;
      most = c.requires.most;
    }

pub loop-index-preserved : goal.loop-index-preserved
loop-index-preserved g c =
    let file : ExactFile = g.S.ExactSource.exact c.args.source.now in
    let ranks : List ℕ = file.order in
    let i = c.loop-index.index in
    let rank = c.rank_at-rank.result in
    let long : length c.ranks-ranks.result.now ≡ length ranks =
    ap length c.ranks-ranks.ensures.are in
    let within : i < length ranks = omega arith in
    let next = placed_next _ _ _ ranks _ _ i _ _ _ c.loop-index.invariant.placed within
    c.rank_at-rank.ensures.is c.rank_at-rank.ensures.there
    (c.ranks-ranks.ensures.ordered.once rank) c.block.ensures c.in-Ok.ensures.is in
    record {
      placed = next;
      room = next.room;
      most = c.in-Ok.ensures.most;
    }

pub returns-in-Err-clause-large : goal.returns-in-Err-clause-large
returns-in-Err-clause-large g c =
    let file : ExactFile = g.S.ExactSource.exact c.args.source.now in
    let ranks : List ℕ = file.order in
    let i = c.loop-index.index in
    let long : length c.ranks-ranks.result.now ≡ length ranks =
    ap length c.ranks-ranks.ensures.are in
    let within : i < length ranks = omega arith in
    let size =
    size_before (exact_block file) ranks _ i _ within c.rank_at-rank.ensures.is c.block.ensures in
    let end = c.loop-index.invariant.placed.end in
    let whole = ap (λ (xs : List ℕ). length xs) (blocks_whole file) in
    place_fault (c.loop-index.at + length c.block.result.now) (exact_size file) _
    (omega (arith, size, end, whole)) c.in-Err.ensures.takes_no_memory c.in-Err.ensures.large

abbrev last : ExactFile → ℕ → List ℕ → List ℕ → ℕ → Type 0
last file count front offsets at =
    ArePlaced (exact_block file) (exact_start file) count front offsets at

pub returns-clause-are : goal.returns-clause-are
returns-clause-are g c =
    let file : ExactFile = g.S.ExactSource.exact c.args.source.now in
    let ranks : List ℕ = file.order in
    let i = c.loop-index.index in
    let long : length c.ranks-ranks.result.now ≡ length ranks =
    ap length c.ranks-ranks.ensures.are in
    let past : length ranks ≤ i = omega arith in
    offsets_are file _ _ (rw (take_all i ranks past) at c.loop-index.invariant.placed)

pub returns-clause-size : goal.returns-clause-size
returns-clause-size g c =
    let file : ExactFile = g.S.ExactSource.exact c.args.source.now in
    let ranks : List ℕ = file.order in
    let i = c.loop-index.index in
    let long : length c.ranks-ranks.result.now ≡ length ranks =
    ap length c.ranks-ranks.ensures.are in
    let past : length ranks ≤ i = omega arith in
    size_placed file _ _ (rw (take_all i ranks past) at c.loop-index.invariant.placed)
