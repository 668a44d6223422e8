use Rattle.chunk_format.proofs.HeaderLaws.{found_header}
use Rattle.chunk_format.proofs.header.Header.read_with_size.Goals as goal

pub returns-clause-found : goal.returns-clause-found
returns-clause-found c = found_header c.args.region.now.bytes c.args.at c.decode.result c.decode.ensures.inside c.decode.ensures.found
