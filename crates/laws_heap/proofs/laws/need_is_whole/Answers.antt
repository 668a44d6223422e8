-- Each part is arithmetic on the definition of `need`.
use Rattle.std.proofs.Common.{arith}
use Rattle.laws_heap.proofs.laws.need_is_whole.Goals as goal

pub returns : goal.returns
returns c count =
    record { whole = omega arith; least = omega arith; holds = omega arith; tight = omega arith }
