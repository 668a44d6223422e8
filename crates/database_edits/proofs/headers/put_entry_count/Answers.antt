-- The field is written into the header, and the rest of the chunk stays.
use Rattle.database_edits.proofs.Laws.{arith, HasEntryCount, field_put, header_kept}
use Rattle.database_edits.proofs.headers.put_entry_count.Goals as goal

pub returns-clause-puts : goal.returns-clause-puts
returns-clause-puts c = field_put 76 _ (HasEntryCount c.args.count) c.requires.header.managers
    (omega arith) c.entry_count_bytes-bytes.ensures c.sys_write.ensures.leaves

pub returns-clause-header : goal.returns-clause-header
returns-clause-header c = header_kept 76 c.entry_count_bytes-bytes.result c.requires.header
    (omega arith) c.sys_write.ensures.stands c.sys_write.ensures.leaves
