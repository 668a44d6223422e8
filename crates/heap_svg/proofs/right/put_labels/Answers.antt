-- `put_labels` writes the offsets of all rows.
use Rattle.heap_svg.proofs.Words.{◌+◌, ◌<◌, ◌≤◌, List, ℕ, true, false, sym, subst, arith, mul-le-mul_left, Writes, then, stops, nothing, label_text, labels_text, rest_lines, line_here, none_left}
use Rattle.heap_svg.proofs.right.put_labels.Goals as goal

pub loop-row-init : goal.loop-row-init
unfolding labels_text
loop-row-init g c = λ new ok w. w

pub put_label-requires : goal.put_label-requires
put_label-requires g c =
    let inside : c.loop-row.row ≤ c.args.rows = omega arith in
    let offset = mul-le-mul_left c.args.line inside in
    record { row = omega arith; offset = omega arith }

pub loop-row-preserved : goal.loop-row-preserved
loop-row-preserved g c = λ new ok w.
    let i = c.loop-row.row in
    let inside : i < c.args.rows = omega arith in
    c.loop-row.invariant new ok
    (subst (λ (text : List ℕ). Writes g.W.Write.contents c.loop-row.out new text ok)
    (sym (line_here (label_text c.args.line) c.args.rows i inside))
    (then g.W.Write.contents c.loop-row.out c.put_label.new.out new (label_text c.args.line i)
    (rest_lines (label_text c.args.line) c.args.rows (i + 1)) ok c.in-Ok.ensures w))

pub returns-in-Err : goal.returns-in-Err
returns-in-Err g c =
    let i = c.loop-row.row in
    let inside : i < c.args.rows = omega arith in
    c.loop-row.invariant c.put_label.new.out false
    (subst (λ (text : List ℕ). Writes g.W.Write.contents c.loop-row.out c.put_label.new.out text
    false) (sym (line_here (label_text c.args.line) _ i inside))
    (stops g.W.Write.contents c.loop-row.out c.put_label.new.out (label_text c.args.line i)
    (rest_lines (label_text c.args.line) c.args.rows (i + 1)) c.in-Err.ensures))

pub returns : goal.returns
returns g c =
    let i = c.loop-row.row in
    let past : c.args.rows ≤ i = omega arith in
    c.loop-row.invariant c.loop-row.out true
    (rw (none_left (label_text c.args.line) _ i past) (nothing g.W.Write.contents c.loop-row.out))
