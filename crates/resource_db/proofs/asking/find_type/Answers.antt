use Rattle.resource_db.proofs.Types.{found_type}
use Rattle.resource_db.proofs.asking.find_type.Goals as goal

pub returns : goal.returns
returns c =
    let found = c.in_ok-resources.ensures in
    rw c.ok_or.ensures.value (found_type c.args.store.now c.args.db c.args.kind c.args.nth c.in_ok-resources.resources c.nth_of_type.result found.accepted found.is found.passes c.nth_of_type.ensures.is c.nth_of_type.ensures.none)
