-- Laws on what is counted in lines.
use Rattle.std.proofs.Common.{◌≡◌, ℕ, List, [], ◌∷◌, ◌++◌, refl, arith}
use Rattle.std.specs.Prelude.{max}
use Rattle.std.proofs.lemmas.List.Recursion.{max_bounds}
use Rattle.script_commands.specs.declared.line.Line.{Line}
use Rattle.script_commands.specs.LineCounts.{greatest_count, EachAtMost}

-- no line has more than the most that one has
pub each_at_most : (count : Line → ℕ) (lines : List Line) (most : ℕ) → most ≡ greatest_count count lines → EachAtMost count most lines
each_at_most count lines most h = λ i d within. rw h (max_bounds (greatest_count count) count refl (λ _ _. refl) lines i d within)

-- one line more
pub greatest-push : (count : Line → ℕ) (lines : List Line) (line : Line) → greatest_count count (lines ++ line ∷ []) ≡ max (greatest_count count lines) (count line)
greatest-push count [] line = omega arith
greatest-push count (first ∷ lines) line = omega (arith, greatest-push count lines line)
