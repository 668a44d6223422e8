use Rattle.std.proofs.Common.{◌++◌, ◌-◌, List, ℕ, length, take, drop, sym, subst}
use Rattle.std.specs.Prelude.{is_ok}
use Rattle.palm_text.specs.Counted.{Writes}
use Rattle.palm_text.proofs.Parts.{then}
use Rattle.store_commands.specs.declared.databases.Row.{Row}
use Rattle.store_commands.specs.DatabasesJson.{more_json, row_json}
use Rattle.store_commands.proofs.Documents.{rows_from}
use Rattle.store_commands.proofs.databases_json.put_rows.Goals as goal

pub returns-in_ok-put_row-in-len1-up : goal.returns-in_ok-put_row-in-len1-up
returns-in_ok-put_row-in-len1-up g c =
    let rows = c.args.rows.now in
    let more = take (length rows - 1) (drop 1 rows) in
    subst (λ (text : List ℕ). Writes g.W.Write.contents c.args.out.now c.put_more.new.out text (is_ok c.put_more.result)) (sym (rows_from rows c.first-item.result c.in-len1-up.len_at_least))
    (subst (λ (row : Row). Writes g.W.Write.contents c.args.out.now c.put_more.new.out (row_json row ++ more_json more) (is_ok c.put_more.result)) c.first-item.is
    (then g.W.Write.contents c.args.out.now c.put_row.new.out c.put_more.new.out (row_json c.first-item.result) (more_json more) (is_ok c.put_more.result) c.in_ok-put_row-in-len1-up.ensures c.put_more.ensures))
