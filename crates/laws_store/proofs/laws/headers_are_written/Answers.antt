use Rattle.laws_store.proofs.Edits.{spelled_header}
use Rattle.laws_store.proofs.laws.headers_are_written.Goals as goal

pub returns : goal.returns
returns c = spelled_header
