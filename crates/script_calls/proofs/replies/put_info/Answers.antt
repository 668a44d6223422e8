use Rattle.std.proofs.Common.{ℕ, List, subst}
use Rattle.std.specs.Prelude.{is_ok}
use Rattle.palm_text.specs.Counted.{Writes}
use Rattle.script_calls.proofs.WordLaws.{line_of_info}
use Rattle.script_calls.proofs.replies.put_info.Goals as goal

pub returns : goal.returns
returns g c = subst (λ (text : List ℕ). Writes g.W.Write.contents c.args.out.now c.put_words.new.out text (is_ok c.put_words.result))
    (line_of_info c.args.info.now c.as_slice.result.now c.from.result c.from-2.result c.as_slice.ensures.is c.from.ensures c.from-2.ensures) c.put_words.ensures
