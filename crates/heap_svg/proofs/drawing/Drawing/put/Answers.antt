-- `put` writes the whole picture, from its parts.
use Rattle.heap_svg.proofs.Laws.{◌++◌, is_ok, false, then, stops, bottom_text, drawing_text, middle_text, notes_text, top_text, fails}
use Rattle.heap_svg.proofs.drawing.Drawing.put.Goals as goal

pub returns-in_err-put_notes : goal.returns-in_err-put_notes
unfolding drawing_text
returns-in_err-put_notes g c =
    let image = c.args.region.now.bytes in
    let drawing = c.args.self.now in
    let top = top_text image drawing.rows in
    let notes = notes_text image in
    let middle = middle_text image drawing.line drawing.rows in
    let bottom = bottom_text image drawing.rows in
    fails g.W.Write.contents c.args.out.now c.put_notes.new.out _
    c.from_residual-in_err-put_notes.result (let e = c.from_residual-in_err-put_notes.ensures in
    e.0) (then g.W.Write.contents c.args.out.now c.put_top.new.out c.put_notes.new.out top
    (notes ++ (middle ++ bottom)) false c.in_ok-put_top.ensures (stops g.W.Write.contents
    c.put_top.new.out c.put_notes.new.out notes (middle ++ bottom) c.in_err-put_notes.ensures))

pub returns-in_err-put_middle : goal.returns-in_err-put_middle
unfolding drawing_text
returns-in_err-put_middle g c =
    let image = c.args.region.now.bytes in
    let drawing = c.args.self.now in
    let top = top_text image drawing.rows in
    let notes = notes_text image in
    let middle = middle_text image drawing.line drawing.rows in
    let bottom = bottom_text image drawing.rows in
    fails g.W.Write.contents c.args.out.now c.put_middle.new.out _
    c.from_residual-in_err-put_middle.result (let e = c.from_residual-in_err-put_middle.ensures in
    e.0) (then g.W.Write.contents c.args.out.now c.put_top.new.out c.put_middle.new.out top
    (notes ++ (middle ++ bottom)) false c.in_ok-put_top.ensures
    (then g.W.Write.contents c.put_top.new.out c.put_notes.new.out c.put_middle.new.out notes
    (middle ++ bottom) false c.in_ok-put_notes.ensures (stops g.W.Write.contents c.put_notes.new.out
    c.put_middle.new.out middle bottom c.in_err-put_middle.ensures)))

pub returns : goal.returns
unfolding drawing_text
returns g c =
    let image = c.args.region.now.bytes in
    let drawing = c.args.self.now in
    let top = top_text image drawing.rows in
    let notes = notes_text image in
    let middle = middle_text image drawing.line drawing.rows in
    let bottom = bottom_text image drawing.rows in
    then g.W.Write.contents c.args.out.now c.put_top.new.out c.put_bottom.new.out top
    (notes ++ (middle ++ bottom)) (is_ok c.put_bottom.result) c.in_ok-put_top.ensures
    (then g.W.Write.contents c.put_top.new.out c.put_notes.new.out c.put_bottom.new.out notes
    (middle ++ bottom) (is_ok c.put_bottom.result) c.in_ok-put_notes.ensures
    (then g.W.Write.contents c.put_notes.new.out c.put_middle.new.out c.put_bottom.new.out middle
    bottom (is_ok c.put_bottom.result) c.in_ok-put_middle.ensures c.put_bottom.ensures))
