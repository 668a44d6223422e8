-- `put_entry_lines` writes the lines about the entries, by the laws of Parts and SalvageTexts.
use Rattle.std.proofs.Common.{◌≡◌, ◌≤◌, ◌<◌, ℕ, [], drop, true, false, arith}
use Rattle.std.proofs.lemmas.List.{drop_all}
use Rattle.std.proofs.lemmas.List.FromFn.{length-map-range_with_len}
use Rattle.heap_model.specs.Lists.{numbered}
use Rattle.palm_text.proofs.Parts.{nothing}
use Rattle.canonical_file.specs.Salvage.{lost_entry_line, whole_entries}
use Rattle.canonical_file.proofs.SalvageTexts.{stops_line, then_line}
use Rattle.canonical_file.proofs.salvage_lines.put_entry_lines.Goals as goal

pub put_entry_line-requires-clause-whole : goal.put_entry_line-requires-clause-whole
put_entry_line-requires-clause-whole g c =
    rw c.whole_entries-index-end.ensures.is at c.loop-index-test.true

pub loop-index-preserved : goal.loop-index-preserved
loop-index-preserved g c = λ new ok w.
    let file = c.args.file.now in
    let below : c.loop-index.index < whole_entries file =
    rw c.whole_entries-index-end.ensures.is at c.loop-index-test.true in
    c.loop-index.invariant new ok
    (then_line g.W.Write.contents (lost_entry_line file) (whole_entries file) c.loop-index.out
    c.put_entry_line.new.out new c.loop-index.index ok below c.in-Ok.ensures w)

pub returns-in-Err : goal.returns-in-Err
returns-in-Err g c =
    let file = c.args.file.now in
    let below : c.loop-index.index < whole_entries file =
    rw c.whole_entries-index-end.ensures.is at c.loop-index-test.true in
    c.loop-index.invariant c.put_entry_line.new.out false
    (stops_line g.W.Write.contents (lost_entry_line file) (whole_entries file) c.loop-index.out
    c.put_entry_line.new.out c.loop-index.index below c.in-Err.ensures)

pub returns : goal.returns
returns g c =
    let file = c.args.file.now in
    let lines = numbered (lost_entry_line file) (whole_entries file) in
    let long = length-map-range_with_len (lost_entry_line file) 0 (whole_entries file) in
    let past : whole_entries file ≤ c.loop-index.index =
    rw c.whole_entries-index-end.ensures.is at c.loop-index-test.false in
    let none_left : drop c.loop-index.index lines ≡ [] =
    drop_all c.loop-index.index lines (omega arith) in
    c.loop-index.invariant c.loop-index.out true
    (rw none_left (nothing g.W.Write.contents c.loop-index.out))
