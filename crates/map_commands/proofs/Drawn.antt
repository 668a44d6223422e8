-- Pictures that are written to a file and then flushed.
use Rattle.std.proofs.Common.{List, ℕ, true, false, Option, inl}
use Rattle.heap_svg.specs.Drawing.{WritesDrawing}
use Rattle.palm_text.specs.Counted.{Writing, Flushes}
use Rattle.palm_text.proofs.Parts.{then_flush}
use Rattle.map_commands.specs.Drawing.{PutsDrawing}
use Rattle.palm_text.specs.Output.{output}

-- the flush after the whole picture succeeded
pub flushed : {W : Type 0} (image : List ℕ) (contents : W → Option (List ℕ)) (old between new : Writing W) → WritesDrawing image contents old between true → Flushes contents between new true → PutsDrawing image (output contents old new) true
flushed image contents old between new drawing flush = (drawing.0, drawing.1, then_flush contents old between new drawing.0 true drawing.2 flush)

-- it failed
pub flush_fails : {W : Type 0} (image : List ℕ) (contents : W → Option (List ℕ)) (old between new : Writing W) → WritesDrawing image contents old between true → Flushes contents between new false → PutsDrawing image (output contents old new) false
flush_fails image contents old between new drawing flush = (drawing.0, drawing.1, then_flush contents old between new drawing.0 false drawing.2 flush)

-- a write of it failed
pub stops : {W : Type 0} (image : List ℕ) (contents : W → Option (List ℕ)) (old new : Writing W) → WritesDrawing image contents old new false → PutsDrawing image (output contents old new) false
stops image contents old new drawing = (drawing.0, drawing.1, inl drawing.2)
