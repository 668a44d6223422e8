use Rattle.std.proofs.Common.{◌≡◌, ◌<◌, ◌∙◌, [], drop, length, true, false, Some, sym, subst, ap, arith}
use Rattle.std.proofs.lemmas.List.{drop_all}
use Rattle.palm_text.specs.Counted.{Writes}
use Rattle.palm_text.proofs.Parts.{nothing}
use Rattle.palm_text.proofs.Sequences.{then_text, stops_text}
use Rattle.file_listing.specs.declared.rows.Row.{Row}
use Rattle.file_listing.specs.declared.rows.Row.TheVariants.{Category}
use Rattle.file_listing.specs.Listing.{category_row, category_rows}
use Rattle.file_listing.proofs.RowTexts.{names_long, name_here}
use Rattle.file_listing.proofs.walk.put_names.Goals as goal

pub loop-number-preserved : goal.loop-number-preserved
loop-number-preserved g c = λ new ok w.
    let app = c.args.app.now in
    let i = c.loop-number.number in
    let long = names_long app in
    let inside : i < length (category_rows (Some app)) = omega arith in
    let row = ap (Category i) c.name_of-name.ensures ∙ sym (name_here app i (omega arith)) in
    c.loop-number.invariant new ok (then_text (g.N.Notation.row_text c.args.notation.now) g.W.Write.contents c.loop-number.out c.put_row.new.out new (category_rows (Some app)) i (category_row app i) ok inside
    (subst (λ (row : Row). Writes g.W.Write.contents c.loop-number.out c.put_row.new.out (g.N.Notation.row_text c.args.notation.now row) true) row c.in-Ok.ensures) w)

pub returns-in-Err : goal.returns-in-Err
returns-in-Err g c =
    let app = c.args.app.now in
    let i = c.loop-number.number in
    let long = names_long app in
    let inside : i < length (category_rows (Some app)) = omega arith in
    let row = ap (Category i) c.name_of-name.ensures ∙ sym (name_here app i (omega arith)) in
    c.loop-number.invariant c.put_row.new.out false (stops_text (g.N.Notation.row_text c.args.notation.now) g.W.Write.contents c.loop-number.out c.put_row.new.out (category_rows (Some app)) i (category_row app i) inside
    (subst (λ (row : Row). Writes g.W.Write.contents c.loop-number.out c.put_row.new.out (g.N.Notation.row_text c.args.notation.now row) false) row c.in-Err.ensures))

pub returns : goal.returns
returns g c =
    let app = c.args.app.now in
    let long = names_long app in
    let none_left : drop c.loop-number.number (category_rows (Some app)) ≡ [] = drop_all c.loop-number.number (category_rows (Some app)) (omega arith) in
    c.loop-number.invariant c.loop-number.out true (rw none_left (nothing g.W.Write.contents c.loop-number.out))
