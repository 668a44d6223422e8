-- `part_of` returns the part of a rank, by the contracts of its calls.
use Rattle.file_parts.proofs.AllWords.{arith, sym, ap, ◌∙◌, bytes_at, block_count}
use Rattle.file_parts.proofs.unpacked.part_of.Goals as goal

pub block-requires : goal.block-requires
block-requires c =
    let count = block_count c.args.file.now in
    omega (arith, count, c.requires)

pub returns-in-None : goal.returns-in-None
returns-in-None c = sym c.block.ensures.is ∙ ap (bytes_at c.args.file.now) c.in-None.is
