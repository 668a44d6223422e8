-- Counts of lines: the labels that they bind, by their numbers; the bytes that their calls give;
-- and the lines that export.
use Rattle.std.specs.Prelude.{◌≤◌, ◌+◌, ℕ, Bool, true, false, List, [], ◌∷◌, All, length, max}
use Rattle.script_commands.specs.declared.line.Line.{Line}
use Rattle.heap_model.specs.declared.call.Call.{Call}
use Rattle.heap_model.specs.declared.call.Call.TheVariants.{Memory, File}
use Rattle.heap_model.specs.declared.call.MemoryCall.{MemoryCall}
use Rattle.heap_model.specs.declared.call.MemoryCall.TheVariants.{Write, StrCopy}
use Rattle.heap_model.specs.declared.call.FileCall.{FileCall}
use Rattle.heap_model.specs.declared.call.FileCall.TheVariants as files
use Rattle.script_commands.specs.declared.line.Line.TheVariants.{Bind, Print, Silent, BindChunk, BindDatabase, Import, Export}

-- the number of the chunk label that a line binds, plus 1; 0 if it binds none
abbrev pub chunk_label_end : Line → ℕ
chunk_label_end (Bind label name) = label.0 + 1
chunk_label_end (BindChunk label call) = label.0 + 1
chunk_label_end line = 0

-- the same for the label of a database
abbrev pub database_label_end : Line → ℕ
database_label_end (BindDatabase label call) = label.0 + 1
database_label_end (Import label file) = label.0 + 1
database_label_end line = 0

-- the number of bytes that a call of the memory manager gives; `count` is the length of its bytes
abbrev pub bytes_written : {Chunk Given : Type 0} → (Given → ℕ) → MemoryCall Chunk Given → ℕ
bytes_written count (Write name at bytes) = count bytes
bytes_written count (StrCopy name at text) = count text
bytes_written count call = 0

-- the same for a call on files
abbrev pub bytes_read : {Database Given : Type 0} → (Given → ℕ) → FileCall Database Given → ℕ
bytes_read count (files.Import file) = count file
bytes_read count (files.Export db) = 0

-- the same for a call of any manager
abbrev pub bytes_given : {Chunk Database Given : Type 0} → (Given → ℕ) → Call Chunk Database Given → ℕ
bytes_given count (Memory call) = bytes_written count call
bytes_given count (File call) = bytes_read count call
bytes_given count call = 0

-- the number of bytes that the call of a line gives
abbrev pub byte_count : Line → ℕ
byte_count (Print call) = bytes_given length call
byte_count (Silent call) = bytes_given length call
byte_count (BindChunk label call) = bytes_given length call
byte_count (BindDatabase label call) = bytes_given length call
byte_count line = 0

-- the count of each line is at most `most`; `count` is one of the three counts above
abbrev pub EachAtMost : (Line → ℕ) → ℕ → List Line → Type 0
EachAtMost count most lines = All (λ line. count line ≤ most) lines

-- the greatest count of a line; 0 if there are no lines
abbrev pub greatest_count : (Line → ℕ) → List Line → ℕ
greatest_count count [] = 0
greatest_count count (line ∷ lines) = max (count line) (greatest_count count lines)

-- a line exports a file if it is accepted
abbrev pub is_export : Line → Bool
is_export (Export label) = true
is_export line = false
