-- `put_padded` writes a number with spaces before it, by the laws of LineLaws.
use Rattle.heap_map.proofs.Laws.{◌∙◌, List, ℕ, false, subst, is_ok, Writes, then, stops, padded_is}
use Rattle.heap_map.proofs.text.put_padded.Goals as goal

pub returns-in-Ok : goal.returns-in-Ok
returns-in-Ok g c = subst (λ (text : List ℕ). Writes g.W.Write.contents c.args.out.now
    c.put_all-in-Ok.new.out text (is_ok c.put_all-in-Ok.result)) (padded_is c.args.number
    c.saturating_sub.result _ _ (c.as_bytes-digits.ensures.value ∙ c.format.ensures.text)
    c.saturating_sub.ensures c.spaces.ensures) (then g.W.Write.contents c.args.out.now
    c.put_all.new.out c.put_all-in-Ok.new.out c.spaces.result.now c.as_bytes-digits.result.now
    (is_ok c.put_all-in-Ok.result) c.in-Ok.ensures c.put_all-in-Ok.ensures)

pub returns-in-Err : goal.returns-in-Err
returns-in-Err g c =
    subst (λ (text : List ℕ). Writes g.W.Write.contents c.args.out.now c.put_all.new.out text false)
    (padded_is c.args.number c.saturating_sub.result _ _ (c.as_bytes-digits.ensures.value
    ∙ c.format.ensures.text) c.saturating_sub.ensures c.spaces.ensures)
    (stops g.W.Write.contents c.args.out.now c.put_all.new.out c.spaces.result.now
    c.as_bytes-digits.result.now c.in-Err.ensures)
