-- `put_bottom` writes everything below the rows, from its parts.
use Rattle.heap_svg.proofs.Laws.{◌++◌, is_ok, false, arith, then, stops, bottom_text, closing_text, databases_note, kinds_text, drawn_rows, fails}
use Rattle.heap_svg.proofs.drawing.Drawing.put_bottom.Goals as goal

pub put_kinds-requires : goal.put_kinds-requires
put_kinds-requires g c =
    let rows = drawn_rows c.args.region.now.bytes c.args.self.now c.requires.drawing in
    omega arith

pub put_databases_note-requires : goal.put_databases_note-requires
put_databases_note-requires g c =
    let rows = drawn_rows c.args.region.now.bytes c.args.self.now c.requires.drawing in
    record { whole = c.requires.whole; accepted = c.requires.drawing.accepted; rows = omega arith }

pub returns-in_err-put_databases_note : goal.returns-in_err-put_databases_note
unfolding bottom_text
returns-in_err-put_databases_note g c =
    let image = c.args.region.now.bytes in
    let rows = c.args.self.now.rows in
    let kinds = kinds_text rows in
    let databases = databases_note image rows in
    let closing = closing_text image rows in
    fails g.W.Write.contents c.args.out.now c.put_databases_note.new.out _
    c.from_residual-in_err-put_databases_note.result (let e =
    c.from_residual-in_err-put_databases_note.ensures in e.0) (then g.W.Write.contents
    c.args.out.now c.put_kinds.new.out c.put_databases_note.new.out kinds (databases ++ closing)
    false c.in_ok-put_kinds.ensures (stops g.W.Write.contents c.put_kinds.new.out
    c.put_databases_note.new.out databases closing c.in_err-put_databases_note.ensures))

pub returns : goal.returns
unfolding bottom_text
returns g c =
    let image = c.args.region.now.bytes in
    let rows = c.args.self.now.rows in
    let kinds = kinds_text rows in
    let databases = databases_note image rows in
    let closing = closing_text image rows in
    then g.W.Write.contents c.args.out.now c.put_kinds.new.out c.put_closing.new.out kinds
    (databases ++ closing) (is_ok c.put_closing.result) c.in_ok-put_kinds.ensures
    (then g.W.Write.contents c.put_kinds.new.out c.put_databases_note.new.out c.put_closing.new.out
    databases closing
    (is_ok c.put_closing.result) c.in_ok-put_databases_note.ensures c.put_closing.ensures)
