-- `noted_owner` returns the noted owner of a slot's chunk, by the laws of OwnerLaws.
use Rattle.std.proofs.Common.{arith}
use Rattle.store_check.proofs.OwnerLaws.{owner_noted, none_noted}
use Rattle.store_check.proofs.owners.noted_owner.Goals as goal

pub returns-then-number-owners : goal.returns-then-number-owners
returns-then-number-owners c image h noted =
    owner_noted _ _ _ c.in-Some.number h noted c.in-Some.ensures.some (omega arith)

pub returns-else-number-owners : goal.returns-else-number-owners
returns-else-number-owners c image h noted = none_noted _ _ c.args.slot h noted (λ mark.
    (let word = mark.1 in let below = mark.2 in let here = c.in-Some.ensures.some in omega arith))

pub returns-in-None : goal.returns-in-None
returns-in-None c image h noted =
    none_noted _ _ c.args.slot h noted (λ mark. c.in-None.ensures.none mark.0 mark.1)
