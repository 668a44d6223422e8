-- `put_framed` writes the strips in their frame, the line over the rooms, and the offsets of the
-- rows.
use Rattle.heap_svg.proofs.Laws.{◌++◌, is_ok, false, codes, then, stops, frame_text, framed_text, labels_text, strips_text, fails}
use Rattle.heap_svg.proofs.frame.put_framed.Goals as goal

pub returns-in_err-put_strips : goal.returns-in_err-put_strips
unfolding framed_text
returns-in_err-put_strips g c =
    let frame = frame_text c.args.line c.args.rows in
    let strips = strips_text c.args.line c.args.strips.now in
    let end = codes "</svg>\n<text x=\"1082\" y=\"68\" class=\"r\">room of stretches</text>\n" in
    let labels = labels_text c.args.line c.args.rows in
    fails g.W.Write.contents c.args.out.now c.put_strips.new.out _
    c.from_residual-in_err-put_strips.result (let e = c.from_residual-in_err-put_strips.ensures in
    e.0) (then g.W.Write.contents c.args.out.now c.put_frame.new.out c.put_strips.new.out frame
    (strips ++ (end ++ labels)) false c.in_ok-put_frame.ensures (stops g.W.Write.contents
    c.put_frame.new.out c.put_strips.new.out strips (end ++ labels) c.in_err-put_strips.ensures))

pub returns-in_err-put_all : goal.returns-in_err-put_all
unfolding framed_text
returns-in_err-put_all g c =
    let frame = frame_text c.args.line c.args.rows in
    let strips = strips_text c.args.line c.args.strips.now in
    let end = codes "</svg>\n<text x=\"1082\" y=\"68\" class=\"r\">room of stretches</text>\n" in
    let labels = labels_text c.args.line c.args.rows in
    fails g.W.Write.contents c.args.out.now c.put_all.new.out _
    c.from_residual-in_err-put_all.result (let e = c.from_residual-in_err-put_all.ensures in e.0)
    (then g.W.Write.contents c.args.out.now c.put_frame.new.out c.put_all.new.out frame
    (strips ++ (end ++ labels)) false c.in_ok-put_frame.ensures
    (then g.W.Write.contents c.put_frame.new.out c.put_strips.new.out c.put_all.new.out strips
    (end ++ labels) false c.in_ok-put_strips.ensures (stops g.W.Write.contents c.put_strips.new.out
    c.put_all.new.out end labels c.in_err-put_all.ensures)))

pub returns : goal.returns
unfolding framed_text
returns g c =
    let frame = frame_text c.args.line c.args.rows in
    let strips = strips_text c.args.line c.args.strips.now in
    let end = codes "</svg>\n<text x=\"1082\" y=\"68\" class=\"r\">room of stretches</text>\n" in
    let labels = labels_text c.args.line c.args.rows in
    then g.W.Write.contents c.args.out.now c.put_frame.new.out c.put_labels.new.out frame
    (strips ++ (end ++ labels)) (is_ok c.put_labels.result) c.in_ok-put_frame.ensures
    (then g.W.Write.contents c.put_frame.new.out c.put_strips.new.out c.put_labels.new.out strips
    (end ++ labels) (is_ok c.put_labels.result) c.in_ok-put_strips.ensures
    (then g.W.Write.contents c.put_strips.new.out c.put_all.new.out c.put_labels.new.out end labels
    (is_ok c.put_labels.result) c.in_ok-put_all.ensures c.put_labels.ensures))
