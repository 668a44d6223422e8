-- `good_files_have_no_line` proves that a file has no fault exactly if there is no line about it,
-- by the laws of GoodSalvage.
use Rattle.canonical_file.proofs.GoodSalvage.{good_no_line}
use Rattle.canonical_file.proofs.laws.good_files_have_no_line.Goals as goal

pub returns : goal.returns
returns c = good_no_line
