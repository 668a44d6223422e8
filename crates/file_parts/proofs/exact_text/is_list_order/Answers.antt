-- `is_list_order` returns whether ranks are in list order, by the laws of ExactRising.
use Rattle.file_parts.proofs.AllWords.{ℕ, suc, List, inl, inr, sym, ◌∙◌, arith, cases_lt}
use Rattle.file_parts.proofs.ExactRising.{lower_breaks, not_lower, rising_all}
use Rattle.file_parts.proofs.exact_text.is_list_order.Goals as goal

pub loop-index-preserved : goal.loop-index-preserved
loop-index-preserved c = λ k less.
    let ranks : List ℕ = c.args.ranks.now in
    let i = c.loop-index.index in
    elim (cases_lt (suc k) i) [
      | inl before ↦ c.loop-index.invariant k before
      | inr here ↦ not_lower ranks i k (omega arith) (sym c.is_lower.ensures ∙ c.if-is_lower.false)
    ]

pub returns-then-is_lower : goal.returns-then-is_lower
returns-then-is_lower c = sym (lower_breaks c.args.ranks.now c.loop-index.index (omega arith)
    (omega arith) (sym c.is_lower.ensures ∙ c.if-is_lower.true))

pub returns : goal.returns
returns c = sym (rising_all c.args.ranks.now (λ k inside. c.loop-index.invariant k (omega arith)))
