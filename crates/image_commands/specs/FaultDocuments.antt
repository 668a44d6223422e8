-- The document for an image that is refused.
use Rattle.std.specs.Prelude.{ℕ, List, [], codes}
use Rattle.store_check.specs.Faults.{store_fault_name, store_fault_numbers}
use Rattle.store_check.specs.declared.fault.StoreFault.{StoreFault}
use Rattle.image_commands.specs.FaultLines.{formed_by}

abbrev pub image_fault_json : StoreFault → List ℕ
image_fault_json fault = formed_by (codes "{\"fault\":\"") (codes "\",\"numbers\":[") [] (codes ",") (codes "]}\n") (store_fault_name fault) (store_fault_numbers fault)
