-- `salvaged_files_are_read` proves that a salvaged file is read as the database that is salvaged,
-- if the IDs are distinct, by the laws of WrittenSalvage.
use Rattle.canonical_file.proofs.WrittenSalvage.{salvaged_read}
use Rattle.canonical_file.proofs.laws.salvaged_files_are_read.Goals as goal

pub returns : goal.returns
returns c = salvaged_read
