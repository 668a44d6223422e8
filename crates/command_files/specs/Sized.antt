-- The faults of a region that is read from a file that was opened.
use Rattle.program_io.specs.declared.input.InputFault.TheVariants.{Open, Read, TooLong, LongerThan, Memory}
use Rattle.command_files.specs.declared.region_input.SizedFault.{SizedFault}
use Rattle.command_files.specs.declared.region_input.SizedFault.TheVariants.{Input, OtherSize}

-- a read or an allocation failed, or the size is another one
abbrev pub IsOfSizedReading : SizedFault → Type 0
IsOfSizedReading (Input (Open error)) = ⊥
IsOfSizedReading (Input (Read failure)) = Unit {0}
IsOfSizedReading (Input TooLong) = ⊥
IsOfSizedReading (Input (LongerThan most)) = ⊥
IsOfSizedReading (Input Memory) = Unit {0}
IsOfSizedReading OtherSize = Unit {0}
