use Rattle.std.proofs.Common.{arith}
use Rattle.db_format.proofs.FieldLaws.{count_written}
use Rattle.db_format.proofs.WordLaws.{put_alone}
use Rattle.db_format.proofs.header_fields.entry_count_bytes.Goals as goal

pub returns : goal.returns
returns c = count_written c.args.count c.put_u16.new.bytes (put_alone _ _ 2 c.put_u16.ensures.front (omega arith))
