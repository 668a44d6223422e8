-- `bytes` returns the bytes of a file without fault, by the contracts of its calls.
use Rattle.std.proofs.Common.{subst}
use Rattle.heap_model.specs.Bytes.{AreBytes}
use Rattle.heap_model.specs.Files.{HasNoFault}
use Rattle.pdb_format.proofs.pdb_file.PdbFile.bytes.Goals as goal

pub returns-clause-good : goal.returns-clause-good
returns-clause-good c = subst HasNoFault c.self.view_is c.self.invariant.good

pub returns-clause-numbers : goal.returns-clause-numbers
returns-clause-numbers c = subst AreBytes c.self.view_is c.know_bytes.ensures
