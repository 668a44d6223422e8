-- The directory has four bytes for each database.
use Rattle.std.proofs.Common.{arith}
use Rattle.palm_store.proofs.lookup.directory.count_databases.Goals as goal

pub returns : goal.returns
returns c = (let many = c.directory_bytes.ensures.listed in omega arith)
