-- `line_count` returns the number of lines of a text.
use Rattle.palmheap_c.proofs.Words.{◌≤◌, ◌∙◌, length, ap, arith, count_by, is_line_end}
use Rattle.std.proofs.lemmas.List.{take_all}
use Rattle.palmheap_c.proofs.salvaging.line_count.Goals as goal

pub returns : goal.returns
returns c =
    let xs = c.args.text.now in
    let i = c.loop-byte.byte-index in
    let past : length xs ≤ i = omega arith in
    c.loop-byte.invariant.same ∙ ap (count_by is_line_end) (take_all i xs past)
