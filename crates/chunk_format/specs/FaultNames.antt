-- The names of the reasons why no blank image was made.
use Rattle.std.specs.Prelude.{ℕ, List, codes}
use Rattle.chunk_format.specs.declared.image.BlankFault.{BlankFault}
use Rattle.chunk_format.specs.declared.image.BlankFault.TheVariants.{BadSize, BadSlotCount, OutOfMemory}

abbrev pub blank_fault_name : BlankFault → List ℕ
blank_fault_name BadSize = codes "BadSize"
blank_fault_name BadSlotCount = codes "BadSlotCount"
blank_fault_name OutOfMemory = codes "OutOfMemory"
