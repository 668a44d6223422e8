-- `exact_folders_pack_back` states that `pack` after `unpack --exact` is the identity, for each
-- file without fault, by the laws of ExactFolders.
use Rattle.file_parts.proofs.ExactFolders.{packs_exactly}
use Rattle.file_parts.proofs.laws.exact_folders_pack_back.Goals as goal

pub returns : goal.returns
returns c = packs_exactly
