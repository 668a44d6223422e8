-- `know_parts` proves that the numbers in each part are bytes, by the contracts of its calls.
use Rattle.file_parts.proofs.AllWords.{ℕ, List, get_or, sym, ◌∙◌, arith, below_more, get_or_default, AreBytes}
use Rattle.file_parts.proofs.packed_start.know_parts.Goals as goal

pub loop-part-preserved : goal.loop-part-preserved
loop-part-preserved c =
    let parts : List (List ℕ) = c.args.parts.now in
    let i = c.loop-part.part-index in
    below_more (λ (k : ℕ). (d : List ℕ) → AreBytes (get_or parts k d)) i c.loop-part.invariant
    (λ d. rw (c.as_slice.ensures ∙ c.part-item.is ∙ sym (get_or_default parts i d c.part-item.result
    c.loop-part-test.true)) at c.know_numbers.ensures)

pub returns : goal.returns
returns c = λ k d inside. c.loop-part.invariant k (omega (arith, inside)) d
