-- `take` removes a number from the set, by the contracts of its calls.
use Rattle.heap_check.proofs.chained.take.Goals as goal

pub returns-then-there-clause-taken : goal.returns-then-there-clause-taken
returns-then-there-clause-taken c = λ yes. record {
  was = c.has-there.ensures.0 (c.if-there.true);
  gone = c.remove.ensures.removes.gone;
  others = c.remove.ensures.removes.others;
}
