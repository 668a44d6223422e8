-- `put_entries` writes the lines of all entries, by the laws of ExactEntries.
use Rattle.file_parts.proofs.AllLaws.{◌+◌, ◌<◌, ◌≤◌, true, false, arith, entry_count_in, then, stops, nothing, rest_lines, all_lines, line_here, none_left}
use Rattle.file_parts.proofs.exact_text.put_entries.Goals as goal

pub loop-index-preserved : goal.loop-index-preserved
loop-index-preserved g c = λ new ok w.
    let file = c.args.file.now in
    let i = c.loop-index.index in
    let inside : i < entry_count_in file = omega arith in
    c.loop-index.invariant new ok
    (rw (line_here file i inside)
    (then g.W.Write.contents c.loop-index.out c.put_entry.new.out new _ _ ok c.in-Ok.ensures w))

pub returns-in-Err : goal.returns-in-Err
returns-in-Err g c =
    let file = c.args.file.now in
    let i = c.loop-index.index in
    let inside : i < entry_count_in file = omega arith in
    rw (all_lines file) at (c.loop-index.invariant c.put_entry.new.out false
    (rw (line_here file i inside) (stops g.W.Write.contents c.loop-index.out c.put_entry.new.out _
    (rest_lines file (i + 1)) c.in-Err.ensures)))

pub returns : goal.returns
returns g c =
    let file = c.args.file.now in
    let i = c.loop-index.index in
    let past : entry_count_in file ≤ i = omega arith in
    rw (all_lines file) at
    (c.loop-index.invariant c.loop-index.out true
    (rw (none_left file i past) (nothing g.W.Write.contents c.loop-index.out)))
