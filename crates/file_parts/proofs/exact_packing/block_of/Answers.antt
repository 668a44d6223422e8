-- `block_of` returns the bytes of the block of a rank, by the laws of ExactPacked.
use Rattle.file_parts.proofs.AllLaws.{◌<◌, length, ◌∙◌, arith, data_in, database_listed, block_is}
use Rattle.file_parts.proofs.exact_packing.block_of.Goals as goal

pub returns : goal.returns
returns c =
    let exact = c.args.exact.now in
    let count = c.requires.parts.count in
    let inside : c.args.rank < length (data_in (database_listed exact.listed)) =
    omega (arith, c.requires.inside) in
    c.part_bytes.ensures ∙ block_is exact c.args.parts.now c.args.rank _ inside c.part.ensures
