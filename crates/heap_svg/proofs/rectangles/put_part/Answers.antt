-- `put_part` writes the part of a strip in a row.
use Rattle.heap_svg.proofs.Words.{◌≡◌, ◌+◌, ◌-◌, ◌*◌, List, ℕ, true, false, ap, ◌∙◌, subst, arith, Writes, then, stops, rect_text, title_text, strip_row}
use Rattle.std.specs.Prelude.{is_ok}
use Rattle.heap_map.specs.Cells.{in_cell}
use Rattle.heap_svg.proofs.rectangles.put_part.Goals as goal

pub returns-in-Ok : goal.returns-in-Ok
unfolding strip_row
returns-in-Ok g c =
    let line = c.args.line in
    let strip = c.args.strip in
    let row = c.args.row in
    let width : c.saturating_sub-width.result ≡ in_cell line row strip.at (strip.at + strip.size) =
    omega (arith, c.saturating_sub-width.ensures, c.min-end.ensures, c.max.ensures) in
    let rect =
    subst (λ (text : List ℕ). Writes g.W.Write.contents c.args.out.now c.put_rect.new.out text true)
    (ap (λ (n : ℕ). rect_text strip row n c.saturating_sub-width.result) c.saturating_sub-x.ensures
    ∙ ap (λ (n : ℕ). rect_text strip row (strip.at - line * row) n) width) c.in-Ok.ensures in
    then g.W.Write.contents c.args.out.now c.put_rect.new.out c.put_title.new.out (rect_text strip
    row (strip.at - line * row) (in_cell line row strip.at (strip.at + strip.size)))
    (title_text strip) (is_ok c.put_title.result) rect c.put_title.ensures

pub returns-in-Err : goal.returns-in-Err
unfolding strip_row
returns-in-Err g c =
    let line = c.args.line in
    let strip = c.args.strip in
    let row = c.args.row in
    let width : c.saturating_sub-width.result ≡ in_cell line row strip.at (strip.at + strip.size) =
    omega (arith, c.saturating_sub-width.ensures, c.min-end.ensures, c.max.ensures) in
    let rect = subst
    (λ (text : List ℕ). Writes g.W.Write.contents c.args.out.now c.put_rect.new.out text false)
    (ap (λ (n : ℕ). rect_text strip row n c.saturating_sub-width.result) c.saturating_sub-x.ensures
    ∙ ap (λ (n : ℕ). rect_text strip row (strip.at - line * row) n) width) c.in-Err.ensures in
    stops g.W.Write.contents c.args.out.now c.put_rect.new.out (rect_text strip row (strip.at
    - line * row) (in_cell line row strip.at (strip.at + strip.size))) (title_text strip) rect
