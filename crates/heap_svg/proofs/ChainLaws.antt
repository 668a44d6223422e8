-- A part of a text that failed, after parts that were written.
use Rattle.heap_svg.proofs.Words.{◌≡◌, List, ℕ, Option, Result, Ok, Err, is_ok, true, false, IsErr, Writing, Writes}

pub fails : {A E W : Type 0} (contents : W → Option (List ℕ)) (old new : Writing W) (text : List ℕ)
    (result : Result A E) → IsErr result → Writes contents old new text false
    → Writes contents old new text (is_ok result)
fails contents old new text (Ok answer) is writes = let e : false ≡ true = is in absurd cc
fails contents old new text (Err error) is writes = writes
