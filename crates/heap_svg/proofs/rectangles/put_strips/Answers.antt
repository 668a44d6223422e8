-- `put_strips` writes all strips.
use Rattle.heap_svg.proofs.Laws.{◌<◌, ◌≤◌, ◌+◌, List, ℕ, true, false, length, drop, get_or, sym, subst, ap, arith, flat_map, drop_all, Writes, then, stops, nothing, strip_text, strips_text, part_here}
use Rattle.heap_svg.proofs.rectangles.put_strips.Goals as goal

pub loop-strip-init : goal.loop-strip-init
unfolding strips_text
loop-strip-init g c = λ new ok w. w

pub loop-strip-preserved : goal.loop-strip-preserved
loop-strip-preserved g c = λ new ok w.
    let xs = c.args.strips.now in
    let i = c.loop-strip.strip-index in
    let inside : i < length xs = omega arith in
    c.loop-strip.invariant new ok
    (subst (λ (text : List ℕ). Writes g.W.Write.contents c.loop-strip.out new text ok)
    (sym (part_here (strip_text c.args.line) xs i _ inside))
    (then g.W.Write.contents c.loop-strip.out c.put_strip.new.out new ((strip_text c.args.line)
    (get_or xs i _)) (flat_map (strip_text c.args.line) (drop (i + 1) xs)) ok c.in-Ok.ensures w))

pub returns-in-Err : goal.returns-in-Err
returns-in-Err g c =
    let xs = c.args.strips.now in
    let i = c.loop-strip.strip-index in
    let inside : i < length xs = omega arith in
    c.loop-strip.invariant c.put_strip.new.out false
    (subst (λ (text : List ℕ). Writes g.W.Write.contents c.loop-strip.out c.put_strip.new.out text
    false) (sym (part_here (strip_text c.args.line) xs i _ inside))
    (stops g.W.Write.contents c.loop-strip.out c.put_strip.new.out ((strip_text c.args.line)
    (get_or xs i _)) (flat_map (strip_text c.args.line) (drop (i + 1) xs)) c.in-Err.ensures))

pub returns : goal.returns
returns g c =
    let xs = c.args.strips.now in
    let i = c.loop-strip.strip-index in
    let past : length xs ≤ i = omega arith in
    c.loop-strip.invariant c.loop-strip.out true (rw (ap (flat_map (strip_text c.args.line))
    (drop_all i xs past)) (nothing g.W.Write.contents c.loop-strip.out))
