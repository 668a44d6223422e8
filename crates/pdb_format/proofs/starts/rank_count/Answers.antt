-- `rank_count` returns the number of blocks that a file may have: its info blocks, and one for each
-- entry, by the laws of GoodFiles.
use Rattle.std.proofs.Common.{arith}
use Rattle.pdb_format.proofs.GoodFiles.{offset_count}
use Rattle.pdb_format.proofs.starts.rank_count.Goals as goal

pub returns-clause-is : goal.returns-clause-is
returns-clause-is g c =
    let count = offset_count (g.B.FileBytes.bytes c.args.file.now) in
    let is = c.entry_count.ensures in
    omega arith
