-- `put_rights` writes the rooms of all rows.
use Rattle.heap_svg.proofs.Words.{◌≡◌, ◌∙◌, ap, length, ◌+◌, ◌<◌, ◌≤◌, List, ℕ, true, false, sym, subst, arith, Writes, then, stops, nothing, rest_lines, line_here, none_left, greatest, Room, right_of, right_text, rights_text, sizes_in}
use Rattle.heap_svg.proofs.right.put_rights.Goals as goal

-- the counts of the rooms of a row make its text
counted : (line row : ℕ) (rooms : List Room) (count largest : ℕ)
    → count ≡ length (sizes_in line row rooms) → largest ≡ greatest (sizes_in line row rooms)
    → right_text row count largest ≡ right_of line rooms row
counted line row rooms count largest counts larges = ap (λ n. right_text row n largest) counts
    ∙ ap (right_text row (length (sizes_in line row rooms))) larges

pub loop-row-init : goal.loop-row-init
unfolding rights_text
loop-row-init g c = λ new ok w. w

pub loop-row-preserved : goal.loop-row-preserved
loop-row-preserved g c = λ new ok w.
    let i = c.loop-row.row in
    let each = right_of c.args.line c.args.rooms.now in
    let line = rw (counted c.args.line i c.args.rooms.now _ _ c.rooms_in.ensures.count
    c.rooms_in.ensures.largest) at c.in-Ok.ensures in
    let inside : i < c.args.rows = omega arith in
    c.loop-row.invariant new ok
    (subst (λ (text : List ℕ). Writes g.W.Write.contents c.loop-row.out new text ok)
    (sym (line_here each _ i inside)) (then g.W.Write.contents c.loop-row.out c.put_right.new.out
    new (each i) (rest_lines each c.args.rows (i + 1)) ok line w))

pub returns-in-Err : goal.returns-in-Err
returns-in-Err g c =
    let i = c.loop-row.row in
    let each = right_of c.args.line c.args.rooms.now in
    let line = rw (counted c.args.line i c.args.rooms.now _ _ c.rooms_in.ensures.count
    c.rooms_in.ensures.largest) at c.in-Err.ensures in
    let inside : i < c.args.rows = omega arith in
    c.loop-row.invariant c.put_right.new.out false
    (subst (λ (text : List ℕ). Writes g.W.Write.contents c.loop-row.out c.put_right.new.out text
    false) (sym (line_here each _ i inside)) (stops g.W.Write.contents c.loop-row.out
    c.put_right.new.out (each i) (rest_lines each c.args.rows (i + 1)) line))

pub returns : goal.returns
returns g c =
    let i = c.loop-row.row in
    let each = right_of c.args.line c.args.rooms.now in
    let past : c.args.rows ≤ i = omega arith in
    c.loop-row.invariant c.loop-row.out true
    (rw (none_left each _ i past) (nothing g.W.Write.contents c.loop-row.out))
