-- `written_files_have_their_size` proves that the file written for a database has the size of its
-- header, its entries and its blocks, by the laws of WrittenFiles.
use Rattle.pdb_format.proofs.WrittenFiles.{length-file}
use Rattle.pdb_format.proofs.laws.written_files_have_their_size.Goals as goal

pub returns : goal.returns
returns c = length-file
