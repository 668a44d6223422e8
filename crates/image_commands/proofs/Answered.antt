-- The line for the fault that a check of an image answers.
use Rattle.std.proofs.Common.{◌≢◌, ℕ, Bool, Option, List, inl, inr}
use Rattle.store_check.specs.declared.fault.StoreFault.{StoreFault}
use Rattle.store_check.specs.declared.fault.StoreFault.TheVariants.{OutOfMemory}
use Rattle.store_check.specs.Checks.{IsAnswered}
use Rattle.store_check.specs.Faults.{IsFirstStoreFault}
use Rattle.palm_text.specs.Counted.{Writing}
use Rattle.palm_text.specs.Output.{Puts, output}
use Rattle.image_commands.specs.FaultLines.{PutsBadImage, fault_line}

-- a fault other than out of memory is the first one
pub first_fault : (image : List ℕ) (fault : StoreFault) → fault ≢ OutOfMemory → IsAnswered image fault → IsFirstStoreFault image fault
first_fault image fault other (inl short) = absurd (other short.0)
first_fault image fault other (inr first) = first

-- so its line is that of the first fault
pub puts_answer : {V : Type 0} (contents : V → Option (List ℕ)) (old new : Writing V) (image : List ℕ) (fault : StoreFault) (ok : Bool) → fault ≢ OutOfMemory → IsAnswered image fault → Puts contents old new (fault_line fault) ok → PutsBadImage image (output contents old new) ok
puts_answer contents old new image fault ok other answered puts = (fault, first_fault image fault other answered, puts)
