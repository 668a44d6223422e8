-- `map_fault` returns each fault but that of memory as `BadImage`, by the laws of FaultLaws.
use Rattle.heap_map.proofs.FaultLaws.{other_fault}
use Rattle.heap_map.proofs.picture.map_fault.Goals as goal

pub returns-in_default : goal.returns-in_default
returns-in_default c = other_fault c.args.fault c.in_default.not-OutOfMemory
