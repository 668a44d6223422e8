use Rattle.std.proofs.Common.{◌≡◌, ◌++◌, List, ℕ, ap, ◌∙◌, subst, append_assoc}
use Rattle.std.specs.Prelude.{codes, decimal, is_ok}
use Rattle.palm_text.specs.Counted.{Writes}
use Rattle.heap_model.specs.Numbers.{number_of, name_of}
use Rattle.palm_text.specs.Pieces.{piece_text}
use Rattle.script_calls.specs.Lines.{details_text}
use Rattle.script_calls.proofs.replies.put_refusal.Goals as goal

-- the pieces of the line, one after another
joined : (front number space name more fault gap part end its_number its_name details : List ℕ) → number ≡ its_number → name ≡ its_name → more ++ (fault ++ (gap ++ part)) ≡ details
    → front ++ (number ++ (space ++ (name ++ (more ++ (fault ++ (gap ++ (part ++ end))))))) ≡ front ++ its_number ++ space ++ its_name ++ details ++ end
joined front number space name more fault gap part end its_number its_name details is_number is_name are = rw (is_number, is_name, ← are) (simp append_assoc)

pub returns : goal.returns
returns g c =
    let refusal = c.args.refusal in
    let number = ap decimal (c.from.ensures ∙ c.number.ensures) in
    let name = c.as_bytes.ensures.value ∙ c.name.ensures in
    let line = joined (codes "refused ") (decimal c.from.result) (codes " ") c.as_bytes.result.now c.details.result.0.0.now c.details.result.0.1.now c.details.result.1.0.now (piece_text c.details.result.1.1) (codes "\n") (decimal (number_of refusal)) (name_of refusal) (details_text refusal) number name c.details.ensures in
    subst (λ (text : List ℕ). Writes g.W.Write.contents c.args.out.now c.put_pieces.new.out text (is_ok c.put_pieces.result)) line c.put_pieces.ensures
