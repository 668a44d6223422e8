-- The bytes of a file that was read.
use Rattle.std.specs.Prelude.{ℕ, List}
use Rattle.file_commands.specs.declared.starts.file_read.FileRead.{FileRead}
use Rattle.file_commands.specs.declared.starts.file_read.FileRead.TheVariants.{Whole, Start}

-- all bytes of the file
abbrev pub bytes_of_read : FileRead → List ℕ
bytes_of_read (Whole bytes) = bytes
bytes_of_read (Start bytes) = bytes
