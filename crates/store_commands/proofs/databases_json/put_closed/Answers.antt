use Rattle.std.specs.Prelude.{codes, is_ok}
use Rattle.palm_text.proofs.Parts.{then, stops}
use Rattle.store_commands.specs.DatabasesJson.{rows_json}
use Rattle.store_commands.proofs.databases_json.put_closed.Goals as goal

pub returns-in-Ok : goal.returns-in-Ok
returns-in-Ok g c =
    then g.W.Write.contents c.args.out.now c.put_rows.new.out c.put_all.new.out (rows_json c.args.rows.now) (codes "]}\n") (is_ok c.put_all.result) c.in-Ok.ensures c.put_all.ensures

pub returns-in-Err : goal.returns-in-Err
returns-in-Err g c =
    stops g.W.Write.contents c.args.out.now c.put_rows.new.out (rows_json c.args.rows.now) (codes "]}\n") c.in-Err.ensures
