-- The names of the faults of a line.
use Rattle.std.specs.Prelude.{ℕ, List, codes}
use Rattle.script_lines.specs.declared.fault.ScriptFault.{ScriptFault}
use Rattle.script_lines.specs.declared.fault.ScriptFault.TheVariants.{UnknownCommand, WrongCount, BadWord, OutOfMemory}

abbrev pub script_fault_name : ScriptFault → List ℕ
script_fault_name UnknownCommand = codes "UnknownCommand"
script_fault_name WrongCount = codes "WrongCount"
script_fault_name (BadWord word) = codes "BadWord"
script_fault_name OutOfMemory = codes "OutOfMemory"
