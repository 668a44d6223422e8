use Rattle.std.proofs.Common.{arith}
use Rattle.db_format.proofs.FieldLaws.{block_written}
use Rattle.db_format.proofs.WordLaws.{put_alone}
use Rattle.db_format.proofs.header_fields.info_block_bytes.Goals as goal

pub returns : goal.returns
returns c = block_written c.args.slot c.put_u32.new.bytes (put_alone _ _ 4 c.put_u32.ensures.front (omega arith))
