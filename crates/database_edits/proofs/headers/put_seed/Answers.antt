-- The field is written into the header, and the rest of the chunk stays.
use Rattle.database_edits.proofs.Laws.{arith, HasSeed, field_put, header_kept}
use Rattle.database_edits.proofs.headers.put_seed.Goals as goal

pub returns-clause-puts : goal.returns-clause-puts
returns-clause-puts c = field_put 68 _ (HasSeed c.args.seed) c.requires.header.managers
    (omega arith) c.seed_bytes-bytes.ensures c.sys_write.ensures.leaves

pub returns-clause-header : goal.returns-clause-header
returns-clause-header c = header_kept 68 c.seed_bytes-bytes.result c.requires.header
    (omega arith) c.sys_write.ensures.stands c.sys_write.ensures.leaves
