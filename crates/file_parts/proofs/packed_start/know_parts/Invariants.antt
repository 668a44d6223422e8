-- The loop of `know_parts` keeps its invariant: the numbers in the parts so far are bytes.
use Rattle.file_parts.proofs.AllWords.{◌<◌, ℕ, List, get_or, AreBytes}
use Rattle.file_parts.proofs.packed_start.know_parts.Given as goal

abbrev pub invariant-loop-part : goal.invariant-loop-part
invariant-loop-part l = (k : ℕ) → k < l.part-index → (d : List ℕ) → AreBytes (get_or l.parts k d)
