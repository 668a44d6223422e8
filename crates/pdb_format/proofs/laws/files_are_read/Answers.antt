-- `files_are_read` proves that each file of bytes without fault is read as a database, by the laws
-- of ReadOnce.
use Rattle.pdb_format.proofs.ReadOnce.{file_read}
use Rattle.pdb_format.proofs.laws.files_are_read.Goals as goal

pub returns : goal.returns
returns c = file_read
