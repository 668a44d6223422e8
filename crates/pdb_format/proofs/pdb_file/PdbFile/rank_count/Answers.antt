-- `rank_count` returns the number of ranks: two for the info blocks, and one for each entry, by the
-- laws of FileBlocks and GoodFiles.
use Rattle.std.proofs.Common.{arith}
use Rattle.pdb_format.proofs.FileBlocks.{block_count}
use Rattle.pdb_format.proofs.GoodFiles.{offset_count}
use Rattle.pdb_format.proofs.pdb_file.PdbFile.rank_count.Goals as goal

pub returns-clause-blocks : goal.returns-clause-blocks
returns-clause-blocks g c =
    let count = block_count c.args.self.now in
    omega (arith, count, c.entry_count.ensures)

pub returns-clause-offsets : goal.returns-clause-offsets
returns-clause-offsets g c =
    let count = offset_count c.args.self.now in
    omega (arith, count, c.entry_count.ensures)
