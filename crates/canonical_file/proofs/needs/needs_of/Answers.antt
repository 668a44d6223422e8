-- `needs_of` returns the needs of the database of a file, by the laws of FileBlocks and Sums.
use Rattle.std.proofs.Common.{◌+◌, ◌<◌, List, Option, None, length, ap, sym, ◌∙◌, arith}
use Rattle.std.specs.List.{sum_by}
use Rattle.std.proofs.lemmas.List.{take_all}
use Rattle.std.proofs.lemmas.List.Sums.{sum_by_more_le, sum_by-take-le}
use Rattle.heap_model.specs.Chunk.{need}
use Rattle.heap_model.specs.Database.{resources_in, entry_count_in}
use Rattle.heap_model.specs.Files.{entries_end}
use Rattle.pdb_format.specs.declared.blocks.Block.{Block}
use Rattle.pdb_format.proofs.FileBlocks.{length-blocks}
use Rattle.canonical_file.specs.BlockNeeds.{block_need, block_slots}
use Rattle.canonical_file.proofs.Sums.{bytes_are, slots_are, needs_at_most, slots_at_most, end_at_most}
use Rattle.canonical_file.proofs.needs.needs_of.Goals as goal

pub bounds-blocks-rank : goal.bounds-blocks-rank
bounds-blocks-rank g c =
    let long = length-blocks c.args.file.now c.blocks-blocks.result.now
    c.blocks-blocks.ensures.places.are in
    omega (arith, long, c.rank_count-rank-end.ensures.is)

pub overflow_add-bytes : goal.overflow_add-bytes
overflow_add-bytes g c =
    let long = length-blocks c.args.file.now c.blocks-blocks.result.now
    c.blocks-blocks.ensures.places.are in
    let inside : c.loop-rank.rank < length c.blocks-blocks.result.now =
    omega (arith, long, c.rank_count-rank-end.ensures.is) in
    let most = sum_by_more_le block_need c.blocks-blocks.result.now c.loop-rank.rank None inside in
    let all = needs_at_most c.blocks-blocks.result.now in
    let end = end_at_most (resources_in c.args.file.now) (entry_count_in c.args.file.now) in
    omega (arith, most, all, end, long, c.rank_count-rank-end.ensures.is, c.rank_count-rank-end.ensures.most, c.loop-rank.invariant.bytes, c.needs_of_block-needs.ensures.bytes, c.blocks-blocks.ensures.places.total, c.blocks-blocks.ensures.size, c.entries_end.ensures.is, c.entries_end.ensures.inside)

pub overflow_add-slots : goal.overflow_add-slots
overflow_add-slots g c =
    let long = length-blocks c.args.file.now c.blocks-blocks.result.now
    c.blocks-blocks.ensures.places.are in
    let inside : c.loop-rank.rank < length c.blocks-blocks.result.now =
    omega (arith, long, c.rank_count-rank-end.ensures.is) in
    let most = sum_by_more_le block_slots c.blocks-blocks.result.now c.loop-rank.rank None inside in
    let all = slots_at_most c.blocks-blocks.result.now in
    omega (arith, most, all, long, c.rank_count-rank-end.ensures.is, c.rank_count-rank-end.ensures.most, c.loop-rank.invariant.slots, c.needs_of_block-needs.ensures.slots)

pub returns-clause-are : goal.returns-clause-are
returns-clause-are g c =
    let file = c.args.file.now in
    let blocks = c.blocks-blocks.result.now in
    let long = length-blocks file blocks c.blocks-blocks.ensures.places.are in
    let all = take_all c.loop-rank.rank blocks
    (omega (arith, long, c.rank_count-rank-end.ensures.is)) in
    record {
      bytes = c.loop-rank.invariant.bytes
          ∙ ap (λ (bs : List (Option Block)). need (entries_end file) + sum_by block_need bs) all
          ∙ sym (bytes_are file blocks c.blocks-blocks.ensures.places.are
          c.blocks-blocks.ensures.places.within);
      slots = c.loop-rank.invariant.slots
          ∙ ap (λ (bs : List (Option Block)). 1 + sum_by block_slots bs) all
          ∙ sym (slots_are file blocks c.blocks-blocks.ensures.places.are
          c.blocks-blocks.ensures.places.within);
    }

pub returns-clause-short : goal.returns-clause-short
returns-clause-short g c =
    let file = c.args.file.now in
    let blocks = c.blocks-blocks.result.now in
    let long = length-blocks file blocks c.blocks-blocks.ensures.places.are in
    let taken = sum_by-take-le block_need blocks c.loop-rank.rank in
    let all = needs_at_most blocks in
    let end = end_at_most (resources_in file) (entry_count_in file) in
    omega (arith, taken, all, end, long, c.rank_count-rank-end.ensures.is, c.rank_count-rank-end.ensures.most, c.loop-rank.invariant.bytes, c.blocks-blocks.ensures.places.total, c.blocks-blocks.ensures.size, c.entries_end.ensures.is, c.entries_end.ensures.inside)

pub returns-clause-few : goal.returns-clause-few
returns-clause-few g c =
    let file = c.args.file.now in
    let blocks = c.blocks-blocks.result.now in
    let long = length-blocks file blocks c.blocks-blocks.ensures.places.are in
    let taken = sum_by-take-le block_slots blocks c.loop-rank.rank in
    let all = slots_at_most blocks in
    omega (arith, taken, all, long, c.rank_count-rank-end.ensures.is, c.rank_count-rank-end.ensures.most, c.loop-rank.invariant.slots)
