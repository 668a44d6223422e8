use Rattle.std.proofs.Common.{Bool, sym, subst}
use Rattle.std.specs.Prelude.{is_ok}
use Rattle.palm_text.specs.Counted.{Writes}
use Rattle.json_documents.specs.RowTexts.{kind_json}
use Rattle.json_documents.proofs.json_rows.put_kind.Goals as goal

pub returns-then-resources : goal.returns-then-resources
returns-then-resources g c =
    subst (λ (resources : Bool). Writes g.W.Write.contents c.args.out.now c.put_all.new.out (kind_json resources) (is_ok c.put_all.result)) (sym c.if-resources.true) c.put_all.ensures

pub returns-else-resources : goal.returns-else-resources
returns-else-resources g c =
    subst (λ (resources : Bool). Writes g.W.Write.contents c.args.out.now c.put_all-else-resources.new.out (kind_json resources) (is_ok c.put_all-else-resources.result)) (sym c.if-resources.false) c.put_all-else-resources.ensures
