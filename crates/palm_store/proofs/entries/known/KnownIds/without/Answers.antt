-- The IDs that are left are free, and the given one is none of them.
use Rattle.palm_store.proofs.KnownIds.{left_free, left_gets}
use Rattle.palm_store.proofs.entries.known.KnownIds.without.Goals as goal

pub returns-in-Record-clause-free : goal.returns-in-Record-clause-free
returns-in-Record-clause-free c = λ store free. left_free store c.args.self c.without.result c.in-Record.id c.without.ensures free

pub returns-in-Record-clause-none : goal.returns-in-Record-clause-none
returns-in-Record-clause-none c = rw c.in-Record.is (left_gets c.args.self c.without.result c.in-Record.attributes c.in-Record.id c.without.ensures)
