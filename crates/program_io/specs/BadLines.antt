-- The line for a fault that has no numbers.
use Rattle.std.specs.Prelude.{◌++◌, ℕ, List, codes}

abbrev pub bad_line : List ℕ → List ℕ
bad_line name = codes "bad " ++ (name ++ codes "\n")
