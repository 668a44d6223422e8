-- The text of a fault of a PDB or PRC file, in replies and in listings.
use Rattle.std.specs.Prelude.{◌++◌, ℕ, List, [], codes, decimal}
use Rattle.heap_model.specs.Files.{file_fault_name, faulty_part}
use Rattle.heap_model.specs.declared.names.Which.{Which}
use Rattle.heap_model.specs.declared.names.Which.TheVariants.{App, Sort}
use Rattle.heap_model.specs.declared.file_fault.FaultyPart.{FaultyPart}
use Rattle.heap_model.specs.declared.file_fault.FaultyPart.TheVariants.{Whole, Block, Entry}
use Rattle.heap_model.specs.declared.file_fault.FileFault.{FileFault}

-- an info block, as scripts name it
abbrev pub which_word : Which → List ℕ
which_word App = codes "app"
which_word Sort = codes "sort"

-- a space and the part of a file that has a fault, or nothing for the whole
abbrev pub faulty_text : FaultyPart → List ℕ
faulty_text Whole = []
faulty_text (Block which) = codes " " ++ which_word which
faulty_text (Entry index) = codes " " ++ decimal index

-- the fault of a file
abbrev pub fault_text : FileFault → List ℕ
fault_text fault = file_fault_name fault ++ faulty_text (faulty_part fault)
