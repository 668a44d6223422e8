use Rattle.std.proofs.Common.{◌∙◌, ℕ, List, Option, Some, sym, ap, subst}
use Rattle.std.specs.Prelude.{is_ok}
use Rattle.palm_text.specs.Counted.{Writes}
use Rattle.json_documents.specs.RowTexts.{category_member}
use Rattle.json_documents.proofs.entries.put_category_member.Goals as goal

pub returns-in-Some : goal.returns-in-Some
returns-in-Some g c =
    subst (λ (name : Option (List ℕ)). Writes g.W.Write.contents c.args.out.now c.put_category_name.new.out (category_member name) (is_ok c.put_category_name.result)) (ap Some c.name.ensures.is ∙ sym c.in-Some.is) c.put_category_name.ensures
