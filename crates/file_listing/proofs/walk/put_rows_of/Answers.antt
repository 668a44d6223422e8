use Rattle.std.proofs.Common.{◌≡◌, ◌++◌, false, rules}
use Rattle.std.specs.Prelude.{is_ok}
use Rattle.file_listing.specs.Listing.{first_rows, category_rows, count_rows, entry_rows, last_rows, rows_of}
use Rattle.file_listing.proofs.RowTexts.{then_rows, stops_rows}
use Rattle.file_listing.proofs.walk.put_rows_of.Goals as goal

pub returns-in_err-put_categories : goal.returns-in_err-put_categories
unfolding rows_of
returns-in_err-put_categories g c =
    let text = g.N.Notation.row_text c.args.notation.now in
    let contents = g.W.Write.contents in
    let file = c.args.file.now in
    let facts = c.args.facts.now in
    let failed : is_ok c.from_residual-in_err-put_categories.result ≡ false = search rules in
    rw failed (
    then_rows text contents c.args.out.now c.put_head.new.out c.put_categories.new.out (first_rows file facts) (category_rows facts.categories ++ (count_rows file ++ (entry_rows file facts.categories ++ last_rows file facts))) false c.in_ok-put_head.ensures (
    stops_rows text contents c.put_head.new.out c.put_categories.new.out (category_rows facts.categories) (count_rows file ++ (entry_rows file facts.categories ++ last_rows file facts)) c.in_err-put_categories.ensures))

pub returns-in_err-put_count : goal.returns-in_err-put_count
unfolding rows_of
returns-in_err-put_count g c =
    let text = g.N.Notation.row_text c.args.notation.now in
    let contents = g.W.Write.contents in
    let file = c.args.file.now in
    let facts = c.args.facts.now in
    let failed : is_ok c.from_residual-in_err-put_count.result ≡ false = search rules in
    rw failed (
    then_rows text contents c.args.out.now c.put_head.new.out c.put_count.new.out (first_rows file facts) (category_rows facts.categories ++ (count_rows file ++ (entry_rows file facts.categories ++ last_rows file facts))) false c.in_ok-put_head.ensures (
    then_rows text contents c.put_head.new.out c.put_categories.new.out c.put_count.new.out (category_rows facts.categories) (count_rows file ++ (entry_rows file facts.categories ++ last_rows file facts)) false c.in_ok-put_categories.ensures (
    stops_rows text contents c.put_categories.new.out c.put_count.new.out (count_rows file) (entry_rows file facts.categories ++ last_rows file facts) c.in_err-put_count.ensures)))

pub returns-in_err-put_entries : goal.returns-in_err-put_entries
unfolding rows_of
returns-in_err-put_entries g c =
    let text = g.N.Notation.row_text c.args.notation.now in
    let contents = g.W.Write.contents in
    let file = c.args.file.now in
    let facts = c.args.facts.now in
    let failed : is_ok c.from_residual-in_err-put_entries.result ≡ false = search rules in
    rw failed (
    then_rows text contents c.args.out.now c.put_head.new.out c.put_entries.new.out (first_rows file facts) (category_rows facts.categories ++ (count_rows file ++ (entry_rows file facts.categories ++ last_rows file facts))) false c.in_ok-put_head.ensures (
    then_rows text contents c.put_head.new.out c.put_categories.new.out c.put_entries.new.out (category_rows facts.categories) (count_rows file ++ (entry_rows file facts.categories ++ last_rows file facts)) false c.in_ok-put_categories.ensures (
    then_rows text contents c.put_categories.new.out c.put_count.new.out c.put_entries.new.out (count_rows file) (entry_rows file facts.categories ++ last_rows file facts) false c.in_ok-put_count.ensures (
    stops_rows text contents c.put_count.new.out c.put_entries.new.out (entry_rows file facts.categories) (last_rows file facts) c.in_err-put_entries.ensures))))
