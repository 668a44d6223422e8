-- The loop of `is_list_order` keeps its invariant: no rank so far is lower than the one before it.
use Rattle.std.proofs.Common.{◌≤◌, ◌<◌, ℕ, suc, get_or}
use Rattle.file_parts.proofs.exact_text.is_list_order.Given as goal

abbrev pub invariant-loop-index : goal.invariant-loop-index
invariant-loop-index l = (k : ℕ) → suc k < l.index → get_or l.ranks k 0 ≤ get_or l.ranks (suc k) 0
