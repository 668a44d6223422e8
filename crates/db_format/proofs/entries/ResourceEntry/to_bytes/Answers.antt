use Rattle.std.proofs.Common.{true, arith}
use Rattle.heap_model.specs.Database.{entry_bytes}
use Rattle.db_format.specs.Entries.{resource_of}
use Rattle.db_format.proofs.EntryLaws.{entry_written}
use Rattle.db_format.proofs.WordLaws.{put_thrice}
use Rattle.db_format.proofs.entries.ResourceEntry.to_bytes.Goals as goal

pub returns-clause-is : goal.returns-clause-is
unfolding entry_bytes
returns-clause-is c = put_thrice _ _ _ 4 6 10 _ _ _ c.put_u32.ensures.front c.put_u16.ensures.front c.put_u32-2.ensures.front (omega arith)

pub returns-clause-written : goal.returns-clause-written
returns-clause-written c = entry_written true (resource_of c.args.self) _ (c.put_u32.ensures.small, c.put_u16.ensures.small, c.put_u32-2.ensures.small) (returns-clause-is c)
