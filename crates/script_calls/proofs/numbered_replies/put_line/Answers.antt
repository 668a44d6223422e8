use Rattle.script_calls.proofs.Fronts.{ends_first}
use Rattle.script_calls.proofs.numbered_replies.put_line.Goals as goal

pub returns-then-n-gt0-clause-start : goal.returns-then-n-gt0-clause-start
returns-then-n-gt0-clause-start g c = λ some. ends_first c.first_line-line.result.now c.args.bytes.now c.in_ok-n.n c.first_line-line.ensures.front c.in_ok-n.ensures.bound some
