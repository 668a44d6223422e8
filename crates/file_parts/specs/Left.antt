-- The lines of a text that are left to read.
use Rattle.std.specs.Prelude.{ℕ, List}

-- the number of lines of a text that were read, and the other lines
pub record Left : Type 0 where
  pub number : ℕ
  pub texts : List (List ℕ)

abbrev pub left : ℕ → List (List ℕ) → Left
left number texts = record { number = number; texts = texts }
