-- `offset` returns the offset of the block of a rank, or 0 if the file doesn't have the block, by
-- the laws of Places.
use Rattle.std.proofs.Common.{sym, ap, ◌∙◌}
use Rattle.pdb_format.proofs.Places.{start_of_place, place_starts}
use Rattle.pdb_format.proofs.pdb_file.PdbFile.offset.Goals as goal

pub returns-in-Some-clause-is : goal.returns-in-Some-clause-is
returns-in-Some-clause-is g c =
    ap start_of_place (sym c.in-Some.is)
    ∙ place_starts c.args.self.now c.args.rank c.block.result c.requires c.block.ensures.place

pub returns-in-None-clause-is : goal.returns-in-None-clause-is
returns-in-None-clause-is g c =
    ap start_of_place (sym c.in-None.is)
    ∙ place_starts c.args.self.now c.args.rank c.block.result c.requires c.block.ensures.place
