-- What is drawn of an image.
use Rattle.heap_svg.proofs.Words.{◌≡◌, ◌<◌, ◌≤◌, ◌-◌, ◌+◌, ◌*◌, ℕ, Bool, List, Option, length, ap, subst, sym, arith, Writing, Writes, Strip, WritesDrawing, drawing_text, rows_in, ShowImage}
use Rattle.heap_svg.specs.declared.drawing.Drawing.{Drawing}
use Rattle.heap_svg.specs.Drawings.{HasDrawing}
use Rattle.heap_svg.proofs.RowLaws.{row_low, row_small, rows_low, few_rows}

-- the sizes of the rows
pub record HasRows (size line rows : ℕ) : Type 0 where
  pub small : size ≤ 16777208
  pub low : 64 ≤ line
  pub short : line < 2097152
  pub few : rows < 16777216
  pub bytes : line * rows ≤ size + (line - 1)

pub drawn_rows : (image : List ℕ) (drawing : Drawing) → HasDrawing image drawing
    → HasRows (length image) drawing.line drawing.rows
drawn_rows image drawing d =
    let size : ℕ = length image in
    let line = drawing.line in
    let most = d.accepted.heap.1.tiles.head.most in
    let low = row_low size line d.line in
    let short = row_small size line most d.line in
    let few = few_rows size line most low short in
    let is : drawing.rows ≡ rows_in size line = d.rows in
    record {
      small = most;
      low = low;
      short = short;
      few = omega arith;
      bytes = subst (λ (n : ℕ). line * n ≤ size + (line - 1)) (sym is)
          (rows_low size line (omega arith));
    }

-- its text is the picture of the image
pub writes_drawing : {W : Type 0} (contents : W → Option (List ℕ)) (old new : Writing W)
    (image : List ℕ) (drawing : Drawing) (ok : Bool) → HasDrawing image drawing
    → Writes contents old new (drawing_text image drawing.line drawing.rows) ok
    → WritesDrawing image contents old new ok
writes_drawing contents old new image drawing ok d writes = (
  drawing_text image drawing.line drawing.rows,
  record {
    line = drawing.line;
    line_is = d.line;
    text_is = ap (drawing_text image drawing.line) d.rows;
    shown = subst (λ (ss : List Strip). ShowImage image ss) d.strips d.shown;
  },
  writes,
)
