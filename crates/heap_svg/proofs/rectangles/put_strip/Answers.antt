-- `put_strip` writes a rectangle in each row that a strip touches.
use Rattle.heap_svg.proofs.Laws.{◌+◌, ◌<◌, ◌≤◌, List, ℕ, true, false, sym, subst, arith, Writes, then, stops, nothing, first_row, strip_rows, strip_part, strip_text, rest_lines, line_here, none_left, row_starts, row_few}
use Rattle.heap_svg.proofs.rectangles.put_strip.Goals as goal

pub loop-i-init : goal.loop-i-init
unfolding strip_text
loop-i-init g c = λ new ok w. w

pub put_part-requires : goal.put_part-requires
put_part-requires g c =
    let line = c.args.line in
    let strip = c.args.strip in
    let row : ℕ = first_row line strip + c.loop-i.i in
    let inside : c.loop-i.i < strip_rows line strip = omega arith in
    let starts = row_starts (strip.at + strip.size) line row (omega arith) (omega arith) in
    let few = row_few (strip.at + strip.size) line row (omega arith) starts in
    record { small = omega arith; inside = omega arith; row = omega arith; start = omega arith }

pub loop-i-preserved : goal.loop-i-preserved
loop-i-preserved g c = λ new ok w.
    let line = c.args.line in
    let strip = c.args.strip in
    let i = c.loop-i.i in
    let inside : i < strip_rows line strip = omega arith in
    c.loop-i.invariant new ok
    (subst (λ (text : List ℕ). Writes g.W.Write.contents c.loop-i.out new text ok)
    (sym (line_here (strip_part line strip) _ i inside))
    (then g.W.Write.contents c.loop-i.out c.put_part.new.out new (strip_part line strip i)
    (rest_lines (strip_part line strip) (strip_rows line strip) (i + 1)) ok c.in-Ok.ensures w))

pub returns-in-Err : goal.returns-in-Err
returns-in-Err g c =
    let line = c.args.line in
    let strip = c.args.strip in
    let i = c.loop-i.i in
    let inside : i < strip_rows line strip = omega arith in
    c.loop-i.invariant c.put_part.new.out false
    (subst (λ (text : List ℕ). Writes g.W.Write.contents c.loop-i.out c.put_part.new.out text false)
    (sym (line_here (strip_part line strip) _ i inside))
    (stops g.W.Write.contents c.loop-i.out c.put_part.new.out (strip_part line strip i)
    (rest_lines (strip_part line strip) (strip_rows line strip) (i + 1)) c.in-Err.ensures))

pub returns : goal.returns
returns g c =
    let line = c.args.line in
    let strip = c.args.strip in
    let i = c.loop-i.i in
    let past : strip_rows line strip ≤ i = omega arith in
    c.loop-i.invariant c.loop-i.out true
    (rw (none_left (strip_part line strip) _ i past) (nothing g.W.Write.contents c.loop-i.out))
