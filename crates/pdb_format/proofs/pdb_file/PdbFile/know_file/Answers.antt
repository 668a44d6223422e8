-- `know_file` proves what holds of each file that is opened: it has no fault, its numbers are
-- bytes, and its blocks are at their places.
use Rattle.std.proofs.Common.{subst}
use Rattle.pdb_format.specs.Opened.{HasPlaces}
use Rattle.pdb_format.proofs.pdb_file.PdbFile.know_file.Goals as goal

pub returns-clause-places : goal.returns-clause-places
returns-clause-places g c =
    subst (HasPlaces c.args.self.now) c.blocks-blocks.ensures.places.places
    c.blocks-blocks.ensures.places
