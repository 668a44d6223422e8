use Rattle.std.proofs.Common.{◌++◌, List, ℕ, ap, ◌∙◌, subst}
use Rattle.std.specs.Prelude.{codes, is_ok}
use Rattle.std.proofs.lemmas.List.{append-nil}
use Rattle.hex.specs.Hex.{encode_lower}
use Rattle.heap_model.specs.Bytes.{u16_bytes}
use Rattle.palm_text.specs.Counted.{Writes}
use Rattle.unicode_text.proofs.strings.put_escaped.Goals as goal

pub returns : goal.returns
returns g c =
    let digits = append-nil (encode_lower (u16_bytes c.code_of-code.result)) ∙ ap (λ (code : ℕ). encode_lower (u16_bytes code)) c.code_of-code.ensures in
    subst (λ (text : List ℕ). Writes g.W.Write.contents c.args.out.now c.put_pieces.new.out text (is_ok c.put_pieces.result)) (ap (λ (hex : List ℕ). codes "\\u" ++ hex) digits) c.put_pieces.ensures
