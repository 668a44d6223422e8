use Rattle.db_format.proofs.HeaderLaws.{header_read}
use Rattle.db_format.proofs.header.DbHeader.read.Goals as goal

pub returns : goal.returns
returns c =
    header_read _ c.args.bytes.now c.read.ensures c.u16_in.ensures c.u16_in-2.ensures c.u32_in.ensures c.u32_in-2.ensures c.u32_in-3.ensures c.u32_in-4.ensures c.u32_in-5.ensures c.u32_in-6.ensures c.u32_in-7.ensures c.u32_in-8.ensures c.u32_in-9.ensures c.u16_in-3.ensures
