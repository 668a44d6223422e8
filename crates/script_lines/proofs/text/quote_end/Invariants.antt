use Rattle.std.proofs.Common.{◌≡◌, ◌==◌, ℕ, ◌<◌, false, get_or}
use Rattle.script_lines.proofs.text.quote_end.Given as goal

-- none of the bytes so far is one to stop at
abbrev pub invariant-loop-at : goal.invariant-loop-at
invariant-loop-at l = (k : ℕ) → k < l.at → (get_or l.text k 0 == 34) ≡ false
