use Rattle.std.proofs.Common.{◌∙◌, ◌++◌, List, ℕ, subst}
use Rattle.std.proofs.lemmas.List.{append-nil}
use Rattle.std.specs.Prelude.{is_ok}
use Rattle.palm_text.specs.Counted.{Writes}
use Rattle.unicode_text.specs.Pieces.{json_text}
use Rattle.json_documents.specs.RowTexts.{array_end, category_json, name_json}
use Rattle.json_documents.proofs.categories.put_category.Goals as goal

pub returns : goal.returns
unfolding category_json
returns g c =
    let written : List ℕ → List ℕ → List ℕ → Type 0 = λ start name end. Writes g.W.Write.contents c.args.out.now c.put_json.new.out (start ++ (name ++ end)) (is_ok c.put_json.result) in
    subst (λ (start : List ℕ). written start (name_json c.args.name.now) (array_end c.args.number)) c.array_start.ensures
    (subst (λ (name : List ℕ). written (json_text c.array_start.result) name (array_end c.args.number)) c.name_json.ensures
    (subst (λ (end : List ℕ). written (json_text c.array_start.result) (json_text c.name_json.result) end) (append-nil (json_text c.array_end.result) ∙ c.array_end.ensures) c.put_json.ensures))
