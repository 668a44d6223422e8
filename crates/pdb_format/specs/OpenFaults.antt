-- Why a file is not opened.
use Rattle.std.specs.Prelude.{ℕ, List}
use Rattle.heap_model.specs.Files.{IsFirstFault, HasNoFault}
use Rattle.pdb_format.specs.declared.pdb_file.OpenFault.{OpenFault}
use Rattle.pdb_format.specs.declared.pdb_file.OpenFault.TheVariants.{BadFile, OutOfMemory}

-- The fault is the first one of the file. Memory is asked for only if the file has no fault.
abbrev pub IsOpenFault : List ℕ → OpenFault → Type 0
IsOpenFault file (BadFile fault) = IsFirstFault file fault
IsOpenFault file OutOfMemory = HasNoFault file
