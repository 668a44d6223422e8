-- What `databases` prints in each form.
use Rattle.std.specs.Prelude.{ℕ, List}
use Rattle.heap_model.specs.Store.{store_of}
use Rattle.image_commands.specs.ImageChecks.{PutsFault}
use Rattle.image_commands.specs.Printed.{EndsPrinted}
use Rattle.palm_text.specs.Output.{Output, PutsTo}
use Rattle.program_io.specs.declared.command_line.Form.{Form}
use Rattle.program_io.specs.declared.command_line.Form.TheVariants.{Text, Json}
use Rattle.program_io.specs.declared.status.Status.{Status}
use Rattle.store_commands.specs.Databases.{listed_rows, rows_text}
use Rattle.store_commands.specs.DatabasesJson.{databases_document}
use Rattle.store_commands.specs.declared.databases.Row.{Row}

-- the lines of databases, or the document of all
abbrev pub rows_in_form : Form → List Row → List ℕ
rows_in_form Text rows = rows_text rows
rows_in_form Json rows = databases_document rows

-- what `databases` wrote of an image, by the status with which it ends
abbrev pub EndsDatabases : {V : Type 0} → Form → List ℕ → Output V → Status → Type 0
EndsDatabases form image out = EndsPrinted image (PutsTo out (rows_in_form form (listed_rows (store_of image)))) (PutsFault form image out) out
