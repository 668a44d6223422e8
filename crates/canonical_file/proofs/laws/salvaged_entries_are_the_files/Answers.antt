-- `salvaged_entries_are_the_files` proves that each salvaged entry is one of the file, by the laws
-- of KeptEntries.
use Rattle.canonical_file.proofs.KeptEntries.{kept_entries}
use Rattle.canonical_file.proofs.laws.salvaged_entries_are_the_files.Goals as goal

pub returns : goal.returns
returns c = kept_entries
