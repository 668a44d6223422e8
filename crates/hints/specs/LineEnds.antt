-- What a transfer as text makes of a file.
use Rattle.std.specs.Prelude.{◌≡◌, ℕ, ◌==◌, if◌then◌else◌, List, [], ◌∷◌}
use Rattle.std.specs.List.{flat_map}

-- A line feed (0A) gets a carriage return (0D) before it.
abbrev pub with_return : ℕ → List ℕ
with_return byte = if byte == 10 then 13 ∷ 10 ∷ [] else byte ∷ []

abbrev pub with_returns : List ℕ → List ℕ
with_returns file = flat_map with_return file

-- a transfer as text makes this file of some file
abbrev pub IsConverted : List ℕ → Type 0
IsConverted file = (original : List ℕ) × (file ≡ with_returns original)
