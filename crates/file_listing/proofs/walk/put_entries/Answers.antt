use Rattle.std.proofs.Common.{◌≡◌, ◌<◌, ◌∙◌, [], drop, length, true, false, sym, subst, arith}
use Rattle.std.proofs.lemmas.List.{drop_all}
use Rattle.palm_text.specs.Counted.{Writes}
use Rattle.palm_text.proofs.Parts.{nothing}
use Rattle.palm_text.proofs.Sequences.{then_text, stops_text}
use Rattle.file_listing.specs.declared.rows.Row.{Row}
use Rattle.file_listing.specs.Listing.{entry_row_at, entry_rows}
use Rattle.file_listing.proofs.RowTexts.{rows_long, row_here}
use Rattle.file_listing.proofs.walk.put_entries.Goals as goal

pub loop-index-preserved : goal.loop-index-preserved
loop-index-preserved g c = λ new ok w.
    let file = c.args.file.now in
    let names = c.args.categories.now in
    let i = c.loop-index.index in
    let long = rows_long file names in
    let inside : i < length (entry_rows file names) = omega arith in
    let row = c.entry_row_at.ensures ∙ sym (row_here file names i (omega arith)) in
    c.loop-index.invariant new ok (then_text (g.N.Notation.row_text c.args.notation.now) g.W.Write.contents c.loop-index.out c.put_row.new.out new (entry_rows file names) i (entry_row_at file names i) ok inside
    (subst (λ (row : Row). Writes g.W.Write.contents c.loop-index.out c.put_row.new.out (g.N.Notation.row_text c.args.notation.now row) true) row c.in-Ok.ensures) w)

pub returns-in-Err : goal.returns-in-Err
returns-in-Err g c =
    let file = c.args.file.now in
    let names = c.args.categories.now in
    let i = c.loop-index.index in
    let long = rows_long file names in
    let inside : i < length (entry_rows file names) = omega arith in
    let row = c.entry_row_at.ensures ∙ sym (row_here file names i (omega arith)) in
    c.loop-index.invariant c.put_row.new.out false (stops_text (g.N.Notation.row_text c.args.notation.now) g.W.Write.contents c.loop-index.out c.put_row.new.out (entry_rows file names) i (entry_row_at file names i) inside
    (subst (λ (row : Row). Writes g.W.Write.contents c.loop-index.out c.put_row.new.out (g.N.Notation.row_text c.args.notation.now row) false) row c.in-Err.ensures))

pub returns : goal.returns
returns g c =
    let file = c.args.file.now in
    let names = c.args.categories.now in
    let long = rows_long file names in
    let none_left : drop c.loop-index.index (entry_rows file names) ≡ [] = drop_all c.loop-index.index (entry_rows file names) (omega arith) in
    c.loop-index.invariant c.loop-index.out true (rw none_left (nothing g.W.Write.contents c.loop-index.out))
