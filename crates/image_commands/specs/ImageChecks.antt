-- The output of `check` in each form, by the status with which it ends. A definition that ends in a
-- `Bool` has it true if all was written and flushed, and false if a write or a flush failed.
use Rattle.std.specs.Prelude.{◌++◌, ℕ, Bool, List, codes, decimal}
use Rattle.heap_check.specs.declared.summary.Summary.{Summary}
use Rattle.store_check.specs.declared.fault.StoreFault.{StoreFault}
use Rattle.store_check.specs.declared.summary.StoreSummary.{StoreSummary}
use Rattle.store_check.specs.Checks.{SummarizesStore}
use Rattle.store_check.specs.Faults as stores
use Rattle.palm_text.specs.Output.{Output, PutsTo}
use Rattle.image_commands.specs.FaultDocuments.{image_fault_json}
use Rattle.image_commands.specs.FaultLines.{fault_line}
use Rattle.image_commands.specs.Printed.{EndsPrinted}
use Rattle.program_io.specs.declared.command_line.Form.{Form}
use Rattle.program_io.specs.declared.command_line.Form.TheVariants.{Text, Json}
use Rattle.program_io.specs.declared.status.Status.{Status}

-- the line for an accepted heap, and the lines for an accepted image
abbrev pub heap_line : Summary → List ℕ
heap_line summary =
    codes "ok size " ++ (decimal summary.size ++ (codes " slots " ++ (decimal summary.slots
    ++ (codes " movable " ++ (decimal summary.movable ++ (codes " fixed " ++ (decimal summary.fixed
    ++ (codes " free " ++ (decimal summary.free ++ codes "\n")))))))))

abbrev pub summary_lines : StoreSummary → List ℕ
summary_lines summary = heap_line summary.heap ++ (codes "databases " ++ (decimal summary.databases ++ codes "\n"))

-- the document for an accepted image
unfoldable pub heap_json : Summary → ℕ → List ℕ
heap_json heap databases =
    codes "{\"size\":" ++ (decimal heap.size
    ++ (codes ",\"slots\":" ++ (decimal heap.slots
    ++ (codes ",\"movable\":" ++ (decimal heap.movable
    ++ (codes ",\"fixed\":" ++ (decimal heap.fixed
    ++ (codes ",\"free\":" ++ (decimal heap.free
    ++ (codes ",\"databases\":" ++ (decimal databases
    ++ codes "}\n")))))))))))

abbrev pub summary_json : StoreSummary → List ℕ
summary_json summary = heap_json summary.heap summary.databases

-- what `check` prints of an accepted image, and for a fault, in each form
abbrev pub summary_in : Form → StoreSummary → List ℕ
summary_in Text summary = summary_lines summary
summary_in Json summary = summary_json summary

abbrev pub fault_in_form : Form → StoreFault → List ℕ
fault_in_form Text fault = fault_line fault
fault_in_form Json fault = image_fault_json fault

module _ {V : Type 0} where
  abbrev pub PutsSummary : Form → List ℕ → Output V → Bool → Type 0
  PutsSummary form image out ok = (summary : StoreSummary) × SummarizesStore image summary × PutsTo out (summary_in form summary) ok

  -- for the first fault of an image
  abbrev pub PutsFault : Form → List ℕ → Output V → Bool → Type 0
  PutsFault form image out ok = (fault : StoreFault) × stores.IsFirstStoreFault image fault × PutsTo out (fault_in_form form fault) ok

  -- what `check` wrote for an image
  abbrev pub EndsCheck : Form → List ℕ → Output V → Status → Type 0
  EndsCheck form image out = EndsPrinted image (PutsSummary form image out) (PutsFault form image out) out
