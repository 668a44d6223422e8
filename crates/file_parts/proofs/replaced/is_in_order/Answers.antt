-- `is_in_order` returns whether no block is misplaced, by the laws of ReplacedSound.
use Rattle.file_parts.proofs.AllLaws.{ℕ, List, ◌≡◌, length, false, ap, sym, ◌∙◌, below_more, arith, is_misplaced, exact_replacing, in_order}
use Rattle.file_parts.proofs.replaced.is_in_order.Goals as goal

pub loop-index-preserved : goal.loop-index-preserved
loop-index-preserved c =
    below_more (λ k. is_misplaced (exact_replacing c.args.replacing.now) k ≡ false)
    c.loop-index.index c.loop-index.invariant (sym c.is_misplaced.ensures ∙ c.if-is_misplaced.false)

pub returns-clause-yes : goal.returns-clause-yes
returns-clause-yes c = λ is.
    let ranks : List ℕ = c.args.replacing.now.unpacked.ranks.items in
    let long : length c.as_slice-ranks.result.now ≡ length ranks =
    ap length c.as_slice-ranks.ensures.value in
    in_order (exact_replacing c.args.replacing.now)
    (λ k less. c.loop-index.invariant k (omega arith))
