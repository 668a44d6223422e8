use Rattle.std.specs.Prelude.{codes, is_ok}
use Rattle.palm_text.proofs.Parts.{then, stops}
use Rattle.store_commands.specs.DatabasesJson.{row_json}
use Rattle.store_commands.proofs.databases_json.put_next.Goals as goal

pub returns-in-Ok : goal.returns-in-Ok
returns-in-Ok g c =
    then g.W.Write.contents c.args.out.now c.put_all.new.out c.put_row.new.out (codes ",") (row_json c.args.row.now) (is_ok c.put_row.result) c.in-Ok.ensures c.put_row.ensures

pub returns-in-Err : goal.returns-in-Err
returns-in-Err g c =
    stops g.W.Write.contents c.args.out.now c.put_all.new.out (codes ",") (row_json c.args.row.now) c.in-Err.ensures
