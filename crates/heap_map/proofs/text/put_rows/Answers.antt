-- `put_rows` writes marks in rows, by the laws of LineLaws.
use Rattle.heap_map.proofs.Laws.{◌+◌, ◌*◌, ◌<◌, ◌≤◌, List, ℕ, true, false, length, sym, subst, arith, slice_range, Writes, then, stops, nothing, row_text, row_line, row_count, row_lines, rest_lines, line_here, none_left}
use Rattle.heap_map.proofs.text.put_rows.Goals as goal

pub loop-row-init : goal.loop-row-init
unfolding row_lines
loop-row-init g c = λ new ok w. w

pub loop-row-preserved : goal.loop-row-preserved
loop-row-preserved g c = λ new ok w.
    let marks = c.args.marks.now in
    let each = row_line c.args.start c.args.size marks in
    let i = c.loop-row.row in
    let inside : i < row_count (length marks) = omega arith in
    let line = rw c.min-end.ensures at c.in-Ok.ensures in
    c.loop-row.invariant new ok
    (subst (λ (text : List ℕ). Writes g.W.Write.contents c.loop-row.out new text ok)
    (sym (line_here each _ i inside)) (then g.W.Write.contents c.loop-row.out c.put_row.new.out new
    (each i) (rest_lines each (row_count (length marks)) (i + 1)) ok line w))

pub returns-in-Err : goal.returns-in-Err
returns-in-Err g c =
    let marks = c.args.marks.now in
    let each = row_line c.args.start c.args.size marks in
    let i = c.loop-row.row in
    let inside : i < row_count (length marks) = omega arith in
    let line = rw c.min-end.ensures at c.in-Err.ensures in
    c.loop-row.invariant c.put_row.new.out false
    (subst (λ (text : List ℕ). Writes g.W.Write.contents c.loop-row.out c.put_row.new.out text
    false) (sym (line_here each _ i inside)) (stops g.W.Write.contents c.loop-row.out
    c.put_row.new.out (each i) (rest_lines each (row_count (length marks)) (i + 1)) line))

pub returns : goal.returns
returns g c =
    let marks = c.args.marks.now in
    let each = row_line c.args.start c.args.size marks in
    let i = c.loop-row.row in
    let past : row_count (length marks) ≤ i = omega arith in
    c.loop-row.invariant c.loop-row.out true
    (rw (none_left each _ i past) (nothing g.W.Write.contents c.loop-row.out))
