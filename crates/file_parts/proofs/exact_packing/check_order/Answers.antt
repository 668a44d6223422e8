-- `check_order` checks the blocks of the lines `order`, by the contracts of its calls.
use Rattle.file_parts.proofs.AllWords.{◌≡◌, false, sym, ◌∙◌, below_more, is_misplaced, exact_packed}
use Rattle.file_parts.proofs.exact_packing.check_order.Goals as goal

pub loop-index-preserved : goal.loop-index-preserved
loop-index-preserved c =
    below_more (λ k. is_misplaced (exact_packed c.args.exact.now c.args.parts.now) k ≡ false)
    c.loop-index.index c.loop-index.invariant (sym c.is_misplaced.ensures ∙ c.if-is_misplaced.false)
