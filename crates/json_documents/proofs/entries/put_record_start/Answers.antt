use Rattle.std.proofs.Common.{◌++◌, ℕ, subst}
use Rattle.std.specs.Prelude.{codes, decimal, is_ok}
use Rattle.palm_text.specs.Counted.{Writes}
use Rattle.palm_text.proofs.Parts.{then}
use Rattle.json_documents.specs.RowTexts.{index_json, member}
use Rattle.json_documents.proofs.entries.put_record_start.Goals as goal

pub returns : goal.returns
returns g c =
    let contents = g.W.Write.contents in
    let key = codes ",\"attributes\":" in
    subst (λ (attributes : ℕ). Writes contents c.args.out.now c.put_number.new.out (index_json c.args.index ++ member key (decimal attributes)) (is_ok c.put_number.result)) c.from.ensures
    (then contents c.args.out.now c.put_index.new.out c.put_number.new.out (index_json c.args.index) (member key (decimal c.from.result)) (is_ok c.put_number.result) c.in_ok-put_index.ensures c.put_number.ensures)
