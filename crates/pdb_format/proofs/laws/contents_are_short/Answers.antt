-- `contents_are_short` proves that the file of a database is at most as long as the image and the
-- longest part before the first block together, by the laws of WrittenStores.
use Rattle.pdb_format.proofs.WrittenStores.{content_short}
use Rattle.pdb_format.proofs.laws.contents_are_short.Goals as goal

pub returns : goal.returns
returns c = content_short
