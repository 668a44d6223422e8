-- `put_escaped` writes a name, escaped for XML.
use Rattle.heap_svg.proofs.Laws.{◌<◌, ◌≤◌, ◌+◌, List, ℕ, true, false, length, drop, get_or, sym, subst, ap, arith, flat_map, drop_all, Writes, then, stops, nothing, escaped_byte, escaped, part_here}
use Rattle.heap_svg.proofs.legend.put_escaped.Goals as goal

pub loop-byte-init : goal.loop-byte-init
unfolding escaped
loop-byte-init g c = λ new ok w. w

pub loop-byte-preserved : goal.loop-byte-preserved
loop-byte-preserved g c = λ new ok w.
    let xs = c.args.name.now in
    let i = c.loop-byte.byte-index in
    let inside : i < length xs = omega arith in
    c.loop-byte.invariant new ok
    (subst (λ (text : List ℕ). Writes g.W.Write.contents c.loop-byte.out new text ok)
    (sym (part_here escaped_byte xs i _ inside))
    (then g.W.Write.contents c.loop-byte.out c.put_byte.new.out new (escaped_byte (get_or xs i _))
    (flat_map escaped_byte (drop (i + 1) xs)) ok c.in-Ok.ensures w))

pub returns-in-Err : goal.returns-in-Err
returns-in-Err g c =
    let xs = c.args.name.now in
    let i = c.loop-byte.byte-index in
    let inside : i < length xs = omega arith in
    c.loop-byte.invariant c.put_byte.new.out false
    (subst (λ (text : List ℕ). Writes g.W.Write.contents c.loop-byte.out c.put_byte.new.out text
    false) (sym (part_here escaped_byte xs i _ inside))
    (stops g.W.Write.contents c.loop-byte.out c.put_byte.new.out (escaped_byte (get_or xs i _))
    (flat_map escaped_byte (drop (i + 1) xs)) c.in-Err.ensures))

pub returns : goal.returns
returns g c =
    let xs = c.args.name.now in
    let i = c.loop-byte.byte-index in
    let past : length xs ≤ i = omega arith in
    c.loop-byte.invariant c.loop-byte.out true (rw (ap (flat_map escaped_byte) (drop_all i xs past))
    (nothing g.W.Write.contents c.loop-byte.out))
