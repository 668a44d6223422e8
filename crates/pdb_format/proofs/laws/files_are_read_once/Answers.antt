-- `files_are_read_once` proves that no file is read as two databases, by the laws of ReadOnce.
use Rattle.pdb_format.proofs.ReadOnce.{read_once}
use Rattle.pdb_format.proofs.laws.files_are_read_once.Goals as goal

pub returns : goal.returns
returns c = read_once
