-- `salvaged_files_have_no_fault` proves that a salvaged file has no fault, by the laws of
-- WrittenSalvage.
use Rattle.canonical_file.proofs.WrittenSalvage.{salvaged_good}
use Rattle.canonical_file.proofs.laws.salvaged_files_have_no_fault.Goals as goal

pub returns : goal.returns
returns c = salvaged_good
