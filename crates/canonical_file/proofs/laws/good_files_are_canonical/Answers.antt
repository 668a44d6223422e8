-- `good_files_are_canonical` proves that a file without fault is salvaged as its canonical form, if
-- the IDs are distinct, by the laws of GoodSalvage.
use Rattle.canonical_file.proofs.GoodSalvage.{good_canonical}
use Rattle.canonical_file.proofs.laws.good_files_are_canonical.Goals as goal

pub returns : goal.returns
returns c = good_canonical
