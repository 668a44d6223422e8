-- The loop of `read_order` keeps its invariant: what is read goes on from the lines so far.
use Rattle.file_parts.proofs.AllWords.{◌≡◌, ◌≤◌, ℕ, [], length, read_order}
use Rattle.file_parts.proofs.exact_lines.read_order.Given as goal

abbrev pub invariant-loop-line : goal.invariant-loop-line
invariant-loop-line g l = (most : ℕ) × (length l.lines.texts ≤ most)
    × (read_order (length l.fn.lines.texts) [] l.fn.lines ≡ read_order most l.order.items l.lines)

abbrev pub decreases-loop-line : goal.decreases-loop-line
decreases-loop-line g l = length l.lines.texts
