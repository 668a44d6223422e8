-- `data_start` returns the offset of the data of the entries: after the info blocks, by the laws of
-- Headers.
use Rattle.std.proofs.Common.{ap, arith}
use Rattle.pdb_format.specs.Blocks.{length_within}
use Rattle.canonical_file.proofs.Headers.{data_at_is, offsets_fit}
use Rattle.canonical_file.proofs.header.data_start.Goals as goal

pub returns-clause-is : goal.returns-clause-is
returns-clause-is g c = λ ids seed.
    let at = data_at_is c.args.file.now ids seed _ _ c.block-app.ensures.is
    c.block-app.ensures.within c.block-sort.ensures.is c.block-sort.ensures.within in
    omega (arith, at, c.first_place.ensures.is, c.block_length.ensures, c.block_length-2.ensures)

pub returns-clause-fits : goal.returns-clause-fits
returns-clause-fits g c =
    let fit = offsets_fit c.args.file.now c.know_file.ensures.places c.requires in
    let app = ap length_within c.block-app.ensures.place in
    let sort = ap length_within c.block-sort.ensures.place in
    omega (arith, fit, app, sort, c.first_place.ensures.is, c.block_length.ensures, c.block_length-2.ensures)
