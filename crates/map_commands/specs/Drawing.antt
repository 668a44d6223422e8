-- The output of `map` with an output file. If the last argument of a definition is a `Bool`, it is
-- whether all writes succeeded.
use Rattle.std.specs.Prelude.{ℕ, Bool, List}
use Rattle.heap_model.specs.Store.{Accepted}
use Rattle.heap_svg.specs.Drawing.{IsDrawing}
use Rattle.palm_text.specs.Output.{Output, PutsTo}
use Rattle.image_commands.specs.FaultLines.{PutsBadImage}
use Rattle.image_commands.specs.Printed.{EndsWritten}
use Rattle.program_io.specs.declared.status.Status.{Status}

-- the output is the picture of an image as SVG
abbrev pub PutsDrawing : {W : Type 0} → List ℕ → Output W → Bool → Type 0
PutsDrawing image out ok = (text : List ℕ) × IsDrawing image text × PutsTo out text ok

-- the line for the first fault of an image that is refused
abbrev pub PutsNotDrawn : {V : Type 0} → List ℕ → Output V → Bool → Type 0
PutsNotDrawn image out ok = (Accepted image → ⊥) × PutsBadImage image out ok

-- the outputs of `map` for an image and a file, by the status with which it ends
abbrev pub EndsDraw : {W V : Type 0} → List ℕ → Output W → Output V → Status → Type 0
EndsDraw image file_out out = EndsWritten image (PutsDrawing image file_out) (PutsNotDrawn image out) file_out out
