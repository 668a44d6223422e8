use Rattle.std.proofs.Common.{List, ℕ, ◌∙◌, subst}
use Rattle.std.specs.Prelude.{decimal, is_ok}
use Rattle.palm_text.specs.Counted.{Writes}
use Rattle.json_documents.specs.RowTexts.{needs_json, needs_of}
use Rattle.json_documents.proofs.needs.put_needs.Goals as goal

pub returns : goal.returns
unfolding needs_json
returns g c =
    let written : List ℕ → List ℕ → Type 0 = λ size slots. Writes g.W.Write.contents c.args.out.now c.put_digits.new.out (needs_of size slots) (is_ok c.put_digits.result) in
    subst (λ (digits : List ℕ). written digits (decimal c.args.slots)) (c.as_bytes.ensures.value ∙ c.format.ensures.text)
    (subst (λ (digits : List ℕ). written c.as_bytes.result.now digits) (c.as_bytes-2.ensures.value ∙ c.format-2.ensures.text) c.put_digits.ensures)
