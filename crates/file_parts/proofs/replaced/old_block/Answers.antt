-- `old_block` returns the bytes of the block of a rank in a file, and none if the file doesn't have
-- the block.
use Rattle.file_parts.proofs.AllWords.{arith, block_count}
use Rattle.file_parts.proofs.replaced.old_block.Goals as goal

pub block-requires : goal.block-requires
block-requires c =
    let count = block_count c.args.file.now in
    omega (arith, count, c.requires)
