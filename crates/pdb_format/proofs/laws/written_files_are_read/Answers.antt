-- `written_files_are_read` proves that the file written for a database is read as that database,
-- with no record busy, by the laws of WrittenFiles.
use Rattle.pdb_format.proofs.WrittenFiles.{written_reads}
use Rattle.pdb_format.proofs.laws.written_files_are_read.Goals as goal

pub returns : goal.returns
returns c = written_reads
