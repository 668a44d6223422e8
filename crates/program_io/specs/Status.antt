-- The statuses of runs that failed.
use Rattle.std.specs.Prelude.{◌≡◌, ℕ, nat_lt, if◌then◌else◌, List, Option, codes}
use Rattle.std.specs.IoError.{error_kind}
use Rattle.std.specs.declared.io.Error.{Error}
use Rattle.std.specs.declared.io.ErrorKind.TheVariants.{OutOfMemory}
use Rattle.std.specs.declared.option.Option.TheVariants.{None, Some}
use Rattle.program_io.specs.declared.input.InputFault.{InputFault}
use Rattle.program_io.specs.declared.input.InputFault.TheVariants.{Open, Read, TooLong, LongerThan, Memory}
use Rattle.program_io.specs.declared.status.Status.{Status}
use Rattle.program_io.specs.declared.status.Status.TheVariants.{Done, Refused, BadWords, ReadFault, WriteFault, NoMemory}

-- the word after `fault` on standard error
abbrev pub fault_word : Status → Option (List ℕ)
fault_word Done = None
fault_word Refused = None
fault_word BadWords = None
fault_word ReadFault = Some (codes "read")
fault_word WriteFault = Some (codes "write")
fault_word NoMemory = Some (codes "memory")

-- how bad a status is
abbrev pub severity : Status → ℕ
severity Done = 0
severity Refused = 1
severity BadWords = 2
severity ReadFault = 3
severity NoMemory = 4
severity WriteFault = 5

-- the worse of two statuses
abbrev pub worse : (first second : Status) → Status
worse first second = if nat_lt (severity first) (severity second) then second else first

-- the fault of a file that couldn't be opened: out of memory, or the error itself
abbrev pub FaultOf : Error → InputFault → Type 0
FaultOf error (Open other) = other ≡ error
FaultOf error (Read failure) = ⊥
FaultOf error TooLong = ⊥
FaultOf error (LongerThan most) = ⊥
FaultOf error Memory = error_kind error ≡ OutOfMemory

-- a fault of a file that was opened
abbrev pub IsOfReading : InputFault → Type 0
IsOfReading (Open error) = ⊥
IsOfReading (LongerThan most) = ⊥
IsOfReading fault = Unit {0}

-- a fault of a file that was opened, and that may have at most `most` bytes
abbrev pub IsOfReadingWithin : ℕ → InputFault → Type 0
IsOfReadingWithin most (Open error) = ⊥
IsOfReadingWithin most TooLong = ⊥
IsOfReadingWithin most (LongerThan limit) = limit ≡ most
IsOfReadingWithin most fault = Unit {0}

-- the status of a run that can't read an input file
abbrev pub status_of : InputFault → Status
status_of (Open error) = ReadFault
status_of (Read failure) = ReadFault
status_of TooLong = ReadFault
status_of (LongerThan most) = ReadFault
status_of Memory = NoMemory
