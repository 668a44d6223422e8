-- `name` returns a valid database name, by the laws of FileNames.
use Rattle.std.proofs.Common.{List, ℕ}
use Rattle.heap_model.specs.Database.{IsDatabaseName, name_in}
use Rattle.pdb_format.proofs.FileNames.{file_named}
use Rattle.pdb_format.proofs.pdb_file.PdbFile.name.Goals as goal

pub returns-clause-valid : goal.returns-clause-valid
returns-clause-valid c = rw c.self.view_is at (file_named _ c.self.invariant.good)
