use Rattle.laws_store.proofs.Directories.{u32s_read, u32s_back}
use Rattle.laws_store.proofs.laws.directories_are_read.Goals as goal

pub returns : goal.returns
returns c = (u32s_read, u32s_back)
