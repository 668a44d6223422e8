use Rattle.std.proofs.Common.{List, ℕ, subst}
use Rattle.std.specs.Prelude.{is_ok}
use Rattle.palm_text.specs.Counted.{Writes}
use Rattle.unicode_text.specs.Pieces.{json_text}
use Rattle.json_documents.proofs.ChangeWords.{changes_are}
use Rattle.json_documents.proofs.changes.put_changes.Goals as goal

pub returns : goal.returns
returns g c =
    subst (λ (text : List ℕ). Writes g.W.Write.contents c.args.out.now c.put_json.new.out text (is_ok c.put_json.result))
    (changes_are c.args.changes c.either-two.result c.either-three.result c.either-four.result (json_text c.word.result) (json_text c.comma_between.result) (json_text c.word-2.result) (json_text c.comma_between-2.result) (json_text c.word-3.result) (json_text c.comma_between-3.result) (json_text c.word-4.result) (json_text c.comma_between-4.result) (json_text c.word-5.result) c.either-two.ensures c.either-three.ensures c.either-four.ensures c.word.ensures c.comma_between.ensures c.word-2.ensures c.comma_between-2.ensures c.word-3.ensures c.comma_between-3.ensures c.word-4.ensures c.comma_between-4.ensures c.word-5.ensures)
    c.put_json.ensures
