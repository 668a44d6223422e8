use Rattle.std.proofs.Common.{Option, sym, subst}
use Rattle.std.specs.Prelude.{is_ok}
use Rattle.palm_text.specs.Counted.{Writes}
use Rattle.file_listing.specs.declared.rows.Extent.{Extent}
use Rattle.json_documents.specs.RowTexts.{data_json}
use Rattle.json_documents.proofs.entries.put_data.Goals as goal

pub returns-in-None : goal.returns-in-None
returns-in-None g c =
    subst (λ (block : Option Extent). Writes g.W.Write.contents c.args.out.now c.put_json.new.out (data_json c.args.id block) (is_ok c.put_json.result)) (sym c.in-None.is) c.put_json.ensures
