-- `check_noting` returns the first fault of the databases, by the laws of CheckLaws.
use Rattle.store_check.proofs.Lemmas.{IsAnswered, if_err, store_first}
use Rattle.store_check.proofs.check.check_noting.Goals as goal

pub returns-in_err-databases-clause-fault : goal.returns-in_err-databases-clause-fault
returns-in_err-databases-clause-fault g c =
    if_err (IsAnswered c.args.region.now.bytes) c.from_residual.result
    (let e = c.from_residual.ensures in (e.0, e.1)) (store_first c.args.region.now.bytes _
    c.in-Ok.ensures.accepted c.in_err-databases.ensures.fault)
