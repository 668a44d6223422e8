-- The slot is that of the info block that was asked for.
use Rattle.std.proofs.Common.{inl, inr}
use Rattle.palm_store.proofs.InfoBlocks.{block_read}
use Rattle.palm_store.proofs.databases.blocks.block_in.Goals as goal

pub returns-in-App : goal.returns-in-App
returns-in-App c = block_read _ _ _ (inl (c.in-App.is, c.app_info.ensures))

pub returns-in-Sort : goal.returns-in-Sort
returns-in-Sort c = block_read _ _ _ (inr (c.in-Sort.is, c.sort_info.ensures))
