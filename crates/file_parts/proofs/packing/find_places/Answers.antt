-- `find_places` returns the offsets at which the blocks of the file begin.
use Rattle.file_parts.proofs.AllLaws.{◌≡◌, ◌+◌, length, ap, arith, block_size, file_size, database_of_parts, refused_more, sizes}
use Rattle.file_parts.proofs.packing.find_places.Goals as goal

pub returns-in-Err-clause-large : goal.returns-in-Err-clause-large
returns-in-Err-clause-large c =
    let d = database_of_parts c.args.listed.now c.args.parts.now in
    let first = c.first_place-app.ensures.is c.args.parts.now in
    let all = sizes d in
    let size : length c.part_bytes.result.now ≡ block_size d.app_info =
    ap length c.part_bytes.ensures in
    refused_more (c.first_place-app.result + length c.part_bytes.result.now)
    (file_size d) c.in-Err.fault (omega (arith, first, all, size)) c.in-Err.ensures.large
