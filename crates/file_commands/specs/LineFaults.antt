-- The line for a refused script. A definition that ends in a `Bool` has it true if all was written
-- and flushed, and false if a write or a flush failed.
use Rattle.std.specs.Prelude.{◌≡◌, ◌++◌, ℕ, Bool, List, Option, codes, decimal}
use Rattle.palm_text.specs.Counted.{Writing}
use Rattle.script_lines.specs.FaultNames.{script_fault_name}
use Rattle.script_lines.specs.declared.fault.LineFault.{LineFault}
use Rattle.script_lines.specs.declared.fault.ScriptFault.{ScriptFault}
use Rattle.script_lines.specs.declared.fault.ScriptFault.TheVariants.{UnknownCommand, WrongCount, BadWord, OutOfMemory}
use Rattle.palm_text.specs.Output.{Puts}

-- a fault of a line: its name, and for a faulty word its number
abbrev pub script_fault_text : ScriptFault → List ℕ
script_fault_text UnknownCommand = script_fault_name UnknownCommand
script_fault_text WrongCount = script_fault_name WrongCount
script_fault_text (BadWord word) = script_fault_name (BadWord word) ++ (codes " " ++ decimal word)
script_fault_text OutOfMemory = script_fault_name OutOfMemory

-- the line for a refused script: `line`, the number of its first faulty line, the fault, and a
-- newline
abbrev pub IsFaultLine : LineFault → List ℕ → Type 0
IsFaultLine fault line = line ≡ codes "line " ++ (decimal fault.line ++ (codes " " ++ (script_fault_text fault.fault ++ codes "\n")))

-- the line for a refused script goes to a writer
abbrev pub PutsScriptRefused : {V : Type 0} → LineFault → (V → Option (List ℕ)) → Writing V → Writing V → Bool → Type 0
PutsScriptRefused fault contents old new ok = (line : List ℕ) × IsFaultLine fault line × Puts contents old new line ok
