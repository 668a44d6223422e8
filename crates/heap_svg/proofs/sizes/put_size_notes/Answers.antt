-- `put_size_notes` writes the number of pieces of each class.
use Rattle.heap_svg.proofs.Words.{◌≡◌, ◌+◌, ◌<◌, ◌≤◌, List, ℕ, Bool, true, false, Option, sym, subst, arith, count_by, Writing, Writes, then, stops, nothing, rest_lines, line_here, none_left, is_of_size, size_note, size_note_at, size_notes}
use Rattle.heap_svg.proofs.sizes.put_size_notes.Goals as goal

-- the size of a class and the number of its pieces, in a note
counted : {W : Type 0} (contents : W → Option (List ℕ)) (old new : Writing W)
    (top index least size count : ℕ) (pieces : List ℕ) (ok : Bool)
    → count ≡ count_by (is_of_size least) pieces → least ≡ size
    → Writes contents old new (size_note top index least count) ok
    → Writes contents old new (size_note top index size (count_by (is_of_size size) pieces)) ok
counted contents old new top index least size count pieces ok counts is w = subst (λ (n : ℕ).
    Writes contents old new (size_note top index n (count_by (is_of_size n) pieces)) ok) is
    (subst (λ (n : ℕ). Writes contents old new (size_note top index least n) ok) counts w)

pub loop-index-init : goal.loop-index-init
unfolding size_notes
loop-index-init g c = λ new ok w. w

pub loop-index-preserved : goal.loop-index-preserved
loop-index-preserved g c = λ new ok w.
    let i = c.loop-index.index in
    let each = size_note_at c.args.top c.args.pieces.now in
    let inside : i < 21 = omega arith in
    let here = counted g.W.Write.contents c.loop-index.out c.put_size_note.new.out c.args.top i _ _
    _ c.args.pieces.now true c.count_of.ensures c.least_size-least.ensures.is c.in-Ok.ensures in
    c.loop-index.invariant new ok
    (subst (λ (text : List ℕ). Writes g.W.Write.contents c.loop-index.out new text ok)
    (sym (line_here each 21 i inside)) (then g.W.Write.contents c.loop-index.out
    c.put_size_note.new.out new (each i) (rest_lines each 21 (i + 1)) ok here w))

pub returns-in-Err : goal.returns-in-Err
returns-in-Err g c =
    let i = c.loop-index.index in
    let each = size_note_at c.args.top c.args.pieces.now in
    let inside : i < 21 = omega arith in
    let here = counted g.W.Write.contents c.loop-index.out c.put_size_note.new.out c.args.top i _ _
    _ c.args.pieces.now false c.count_of.ensures c.least_size-least.ensures.is c.in-Err.ensures in
    c.loop-index.invariant c.put_size_note.new.out false
    (subst (λ (text : List ℕ). Writes g.W.Write.contents c.loop-index.out c.put_size_note.new.out
    text false) (sym (line_here each 21 i inside)) (stops g.W.Write.contents c.loop-index.out
    c.put_size_note.new.out (each i) (rest_lines each 21 (i + 1)) here))

pub returns : goal.returns
returns g c =
    let i = c.loop-index.index in
    let each = size_note_at c.args.top c.args.pieces.now in
    let past : 21 ≤ i = omega arith in
    c.loop-index.invariant c.loop-index.out true
    (rw (none_left each 21 i past) (nothing g.W.Write.contents c.loop-index.out))
