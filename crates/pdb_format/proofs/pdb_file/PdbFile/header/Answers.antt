-- `header` returns the header, by the laws of FileNames and ReadHeaders.
use Rattle.std.proofs.Common.{◌≡◌, ℕ, List}
use Rattle.heap_model.specs.Database.{header_in}
use Rattle.db_format.specs.Headers.{header_values}
use Rattle.pdb_format.proofs.FileNames.{file_named}
use Rattle.pdb_format.proofs.ReadHeaders.{values_are}
use Rattle.pdb_format.proofs.pdb_file.PdbFile.header.Goals as goal

pub header-requires-clause-name : goal.header-requires-clause-name
header-requires-clause-name g c = file_named _ c.self.invariant.good

pub returns-clause-values : goal.returns-clause-values
returns-clause-values g c =
    rw c.self.view_is at (values_are (g.B.FileBytes.bytes c.self.inside.bytes) _ c.header.ensures)
