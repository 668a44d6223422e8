-- `packed_folders_are_exact` states that the file that `pack` makes of an exact folder is read as
-- exactly that of the folder, also if the folder was edited, by the laws of ExactPackedBack.
use Rattle.file_parts.proofs.ExactPackedBack.{packed_back}
use Rattle.file_parts.proofs.laws.packed_folders_are_exact.Goals as goal

pub returns : goal.returns
returns c = packed_back
