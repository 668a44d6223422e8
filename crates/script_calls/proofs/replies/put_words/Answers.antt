use Rattle.std.proofs.Common.{◌≡◌, List, ℕ, ◌++◌, false, sym, subst, rules}
use Rattle.std.specs.Prelude.{codes, is_ok}
use Rattle.std.specs.List.{flat_map}
use Rattle.palm_text.specs.Counted.{Writes}
use Rattle.palm_text.proofs.Parts.{then, stops}
use Rattle.script_calls.specs.Lines.{text_of_word}
use Rattle.script_calls.proofs.replies.put_words.Goals as goal

pub returns : goal.returns
returns g c = then g.W.Write.contents c.args.out.now c.put_all.new.out c.put_last_words.new.out (codes "ok") (flat_map text_of_word c.args.shown.now ++ codes "\n") (is_ok c.put_last_words.result) c.in_ok-put_all.ensures c.put_last_words.ensures

pub returns-in_err-put_all : goal.returns-in_err-put_all
returns-in_err-put_all g c =
    let rest : List ℕ = flat_map text_of_word c.args.shown.now ++ codes "\n" in
    let failed : is_ok c.from_residual.result ≡ false = search rules in
    subst (Writes g.W.Write.contents c.args.out.now c.put_all.new.out (codes "ok" ++ rest)) (sym failed)
    (stops g.W.Write.contents c.args.out.now c.put_all.new.out (codes "ok") rest c.in_err-put_all.ensures)
