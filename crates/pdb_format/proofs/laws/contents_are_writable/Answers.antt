-- `contents_are_writable` proves that the content of each database in an accepted image can be
-- written to a file, by the laws of WrittenStores.
use Rattle.pdb_format.proofs.WrittenStores.{content_writable}
use Rattle.pdb_format.proofs.laws.contents_are_writable.Goals as goal

pub returns : goal.returns
returns c = content_writable
