-- `accepted_without_faults` proves that an accepted heap is accepted with its databases exactly if
-- it has no fault, by the laws of FaultLaws.
use Rattle.store_check.proofs.FaultLaws.{accepted_none}
use Rattle.store_check.proofs.laws.accepted_without_faults.Goals as goal

pub returns : goal.returns
returns c = accepted_none
