-- The field is written into the header, and the rest of the chunk stays.
use Rattle.database_edits.proofs.Laws.{arith, HasInfoBlock, info_block_at, field_put, header_kept, block_within}
use Rattle.database_edits.proofs.headers.put_info_block.Goals as goal

pub returns-clause-puts : goal.returns-clause-puts
returns-clause-puts c =
    field_put (info_block_at c.args.which) _ (HasInfoBlock c.args.which c.args.slot)
    c.requires.header.managers (block_within c.args.which _ (omega arith))
    (c.info_block_bytes-bytes.ensures c.args.which)
    (rw c.info_block_at.ensures at c.sys_write.ensures.leaves)

pub returns-clause-header : goal.returns-clause-header
returns-clause-header c =
    header_kept (info_block_at c.args.which) c.info_block_bytes-bytes.result c.requires.header
    (block_within c.args.which _ (omega arith)) c.sys_write.ensures.stands
    (rw c.info_block_at.ensures at c.sys_write.ensures.leaves)
