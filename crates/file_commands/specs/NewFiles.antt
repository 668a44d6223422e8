-- What the commands write that write a new file for a file: the file to one output, and lines to
-- another one.
use Rattle.std.specs.Prelude.{ℕ, List}
use Rattle.palm_text.specs.Output.{Output}
use Rattle.program_io.specs.declared.status.Status.{Status}
use Rattle.file_commands.specs.declared.file_rewrites.NewFile.{NewFile}
use Rattle.file_commands.specs.declared.file_rewrites.NewFile.TheVariants as kinds
use Rattle.file_commands.specs.Ends.{EndsCanonical}
use Rattle.file_commands.specs.Keeps.{EndsKept}
use Rattle.file_commands.specs.Puts.{EndsPut}
use Rattle.file_commands.specs.Salvages.{EndsSalvage}

-- what the command for this new file wrote for a file
abbrev pub EndsNewFile : {W V : Type 0} → NewFile → List ℕ → Output W → Output V → Status → Type 0
EndsNewFile kinds.Canonical file file_out out status = EndsCanonical file file_out out status
EndsNewFile (kinds.Kept keep) file file_out out status = EndsKept keep file file_out out status
EndsNewFile (kinds.Salvaged ids) file file_out out status = EndsSalvage ids file file_out out status
EndsNewFile (kinds.Put block) file file_out out status = EndsPut file block file_out out status
