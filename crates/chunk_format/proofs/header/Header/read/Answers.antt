use Rattle.std.proofs.Common.{Some, None}
use Rattle.chunk_format.proofs.HeaderLaws.{header_read}
use Rattle.chunk_format.proofs.header.Header.read.Goals as goal

pub returns-in-Some-clause-is : goal.returns-in-Some-clause-is
returns-in-Some-clause-is c = header_read c.args.region.now.bytes c.args.at (Some c.in-Some.header) c.in-Some.ensures.found tt

pub returns-in-None-clause-is : goal.returns-in-None-clause-is
returns-in-None-clause-is c = header_read c.args.region.now.bytes c.args.at None tt c.in-None.ensures.none
