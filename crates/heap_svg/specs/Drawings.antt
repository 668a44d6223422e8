-- What is drawn of an image before its lines are written.
use Rattle.std.specs.Prelude.{◌≡◌, ◌<◌, ◌^◌, ℕ, List, length}
use Rattle.heap_model.specs.Space.{greatest}
use Rattle.heap_model.specs.Store.{Accepted}
use Rattle.store_check.specs.Checks.{SummarizesStore}
use Rattle.heap_svg.specs.Rooms.{compact_pieces, rooms_drawn}
use Rattle.heap_map.specs.Text.{free_pieces}
use Rattle.heap_svg.specs.declared.drawing.Drawing.{Drawing}
use Rattle.heap_svg.specs.Rows.{IsRowSize, rows_in, thin_below}
use Rattle.heap_svg.specs.Strips.{strips_of, ShowImage}

-- an accepted image: its counts, its free pieces, its rooms, its rows and its strips
pub record HasDrawing (image : List ℕ) (drawing : Drawing) : Type 0 where
  pub accepted : Accepted image
  pub summary : SummarizesStore image drawing.summary
  pub pieces : drawing.pieces.items ≡ free_pieces image
  pub count : drawing.free.count ≡ length (free_pieces image)
  pub few : drawing.free.count < 2 ^ 32
  pub largest : drawing.free.largest ≡ greatest (free_pieces image)
  pub rooms : drawing.rooms.all.items ≡ rooms_drawn image
  pub left_count : drawing.rooms.count ≡ length (compact_pieces image)
  pub left_largest : drawing.rooms.largest ≡ greatest (compact_pieces image)
  pub line : IsRowSize (length image) drawing.line
  pub rows : drawing.rows ≡ rows_in (length image) drawing.line
  pub strips : drawing.strips.items ≡ strips_of image (thin_below drawing.line)
  pub shown : ShowImage image drawing.strips.items
