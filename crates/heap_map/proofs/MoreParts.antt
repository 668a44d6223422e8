-- A part that fails after another was written.
use Rattle.heap_map.proofs.Words.{List, ℕ, Option, ◌++◌, true, false, Writing, Writes, then, stops}

pub then_stops : {W : Type 0} (contents : W → Option (List ℕ)) (old mid new : Writing W)
    (a b c : List ℕ) → Writes contents old mid a true → Writes contents mid new b false
    → Writes contents old new (a ++ (b ++ c)) false
then_stops contents old mid new a b c first second =
    then contents old mid new a (b ++ c) false first (stops contents mid new b c second)
