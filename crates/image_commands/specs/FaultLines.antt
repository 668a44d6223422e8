-- The line for the fault of an image. A definition that ends in a `Bool` has it true if all was
-- written and flushed, and false if a write or a flush failed.
use Rattle.std.specs.Prelude.{◌≡◌, ◌++◌, ◌⊎◌, ℕ, Bool, true, false, List, [], codes, decimal}
use Rattle.chunk_format.specs.Blank.{IsRegionSize, LeavesRoom}
use Rattle.chunk_format.specs.FaultNames.{blank_fault_name}
use Rattle.chunk_format.specs.declared.image.BlankFault.TheVariants.{BadSize, BadSlotCount}
use Rattle.program_io.specs.BadLines.{bad_line}
use Rattle.palm_text.specs.Output.{Output, PutsTo}
use Rattle.store_check.specs.Faults.{IsFirstStoreFault, store_fault_name, store_fault_numbers}
use Rattle.store_check.specs.declared.fault.StoreFault.{StoreFault}
use Rattle.heap_check.specs.declared.fault.Numbers.{Numbers}
use Rattle.heap_check.specs.declared.fault.Numbers.TheVariants.{Zero, One, Two}
use Rattle.image_commands.specs.declared.faults.FaultForm.{FaultForm}
use Rattle.program_io.specs.declared.status.Status.{Status}
use Rattle.program_io.specs.declared.status.Status.TheVariants.{WriteFault}

-- A text was put, and the status is `status`; or a write or the flush failed.
pub record Says {V : Type 0} (out : Output V) (text : List ℕ) (status result : Status) : Type 0 where
  pub statuses : (result ≡ status) ⊎ (result ≡ WriteFault)
  pub said : result ≡ status → PutsTo out text true
  pub write : result ≡ WriteFault → PutsTo out text false

-- the numbers of a fault by the texts before the first, between two and at the end
abbrev pub formed_numbers : (first between end : List ℕ) → Numbers → List ℕ
formed_numbers first between end Zero = end
formed_numbers first between end (One number) = first ++ (decimal number ++ end)
formed_numbers first between end (Two low high) = first ++ (decimal low ++ (between ++ (decimal high ++ end)))

-- a fault by its name and its numbers, with the texts before the name and after it
abbrev pub formed_by : (front named first between end : List ℕ) → List ℕ → Numbers → List ℕ
formed_by front named first between end name numbers = front ++ (name ++ (named ++ formed_numbers first between end numbers))

abbrev pub formed : FaultForm → List ℕ → Numbers → List ℕ
formed form = formed_by form.front.now form.named.now form.first.now form.between.now form.end.now

abbrev pub formed_fault : FaultForm → StoreFault → List ℕ
formed_fault form fault = formed form (store_fault_name fault) (store_fault_numbers fault)

-- the line for an image that is refused
abbrev pub fault_line : StoreFault → List ℕ
fault_line fault = formed_by (codes "bad ") [] (codes " ") (codes " ") (codes "\n") (store_fault_name fault) (store_fault_numbers fault)

-- the line for the first fault of an image
abbrev pub PutsBadImage : {V : Type 0} → List ℕ → Output V → Bool → Type 0
PutsBadImage image out ok = (fault : StoreFault) × IsFirstStoreFault image fault × PutsTo out (fault_line fault) ok

-- The line for a size and a slot count of which there is no image: no image may have the size, or
-- no image of the size may have the slot count.
abbrev pub PutsNoImage : {V : Type 0} → (size slots : ℕ) → Output V → Bool → Type 0
PutsNoImage size slots out ok =
    ((IsRegionSize size → ⊥) × PutsTo out (bad_line (blank_fault_name BadSize)) ok)
    ⊎ (IsRegionSize size × (LeavesRoom size slots → ⊥) × PutsTo out (bad_line (blank_fault_name BadSlotCount)) ok)
