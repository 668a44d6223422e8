-- The bytes are written over some of the chunk's.
use Rattle.database_edits.proofs.Chunks.{written}
use Rattle.database_edits.proofs.bodies.put_part.Goals as goal

pub returns-clause-writes : goal.returns-clause-writes
returns-clause-writes c =
    written c.args.at c.args.part.now c.requires.managers c.sys_write.ensures.leaves
