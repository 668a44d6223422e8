-- Each call has a name less.
use Rattle.std.proofs.Common.{length}
use Rattle.test_beside.proofs.beside.+reply_while_lent.Given as goal

abbrev pub decreases-reply_while_lent : goal.decreases-reply_while_lent
decreases-reply_while_lent l = length l.names.now
