-- `file_size` returns the size of the canonical form of a file in bytes, by the laws of BlockTexts
-- and Lengths.
use Rattle.std.proofs.Common.{arith}
use Rattle.canonical_file.proofs.BlockTexts.{blocks_long}
use Rattle.canonical_file.proofs.Lengths.{file_long}
use Rattle.canonical_file.proofs.canonical.file_size.Goals as goal

pub total_length-requires-clause-few : goal.total_length-requires-clause-few
total_length-requires-clause-few g c = omega (arith, c.blocks-2.ensures.places.total, c.requires)

pub overflow_add-result : goal.overflow_add-result
overflow_add-result g c =
    omega (arith, c.first_place.ensures.most, c.blocks-2.ensures.places.total, c.requires, c.total_length.ensures)

pub returns : goal.returns
returns g c = λ ids seed.
    let long = file_long c.args.file.now ids seed c.blocks-2.ensures.places.good in
    let blocks = blocks_long c.args.file.now c.blocks-2.result.now c.blocks-2.ensures.places in
    omega (arith, long, blocks, c.first_place.ensures.is, c.total_length.ensures)
