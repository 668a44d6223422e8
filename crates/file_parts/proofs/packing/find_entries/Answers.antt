-- `find_entries` returns the offsets at which the blocks of the file begin.
use Rattle.file_parts.proofs.AllLaws.{◌≡◌, ◌+◌, length, ap, arith, block_size, file_size, database_of_parts, refused_more, sizes}
use Rattle.file_parts.proofs.packing.find_entries.Goals as goal

pub returns-in-Ok-clause-are : goal.returns-in-Ok-clause-are
returns-in-Ok-clause-are c =
    let d = database_of_parts c.args.listed.now c.args.parts.now in
    let app = c.requires.app in
    let sort = c.requires.sort in
    let end = c.in-Ok.ensures.is in
    let size : length c.part_bytes.result.now ≡ block_size d.sort_info =
    ap length c.part_bytes.ensures in
    record {
      app = app;
      sort = omega (arith, app, sort);
      entries = omega (arith, app, sort, end, size);
      most = c.in-Ok.ensures.most;
    }

pub returns-in-Err-clause-large : goal.returns-in-Err-clause-large
returns-in-Err-clause-large c =
    let d = database_of_parts c.args.listed.now c.args.parts.now in
    let app = c.requires.app in
    let sort = c.requires.sort in
    let all = sizes d in
    let size : length c.part_bytes.result.now ≡ block_size d.sort_info =
    ap length c.part_bytes.ensures in
    refused_more (c.args.sort + length c.part_bytes.result.now) (file_size d) c.in-Err.fault
    (omega (arith, app, sort, all, size)) c.in-Err.ensures.large
