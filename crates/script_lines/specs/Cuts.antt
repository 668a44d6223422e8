-- How a text is cut into its first line and the rest, or its first word and the rest.
use Rattle.std.specs.Prelude.{◌≡◌, ◌<◌, ◌≤◌, ◌+◌, ◌++◌, ℕ, List, [], ◌∷◌, length, Bool, true, Ok, Err}
use Rattle.std.specs.Str.Lines.{lines}
use Rattle.script_lines.specs.Words.{is_blank, words_of, with_word}
use Rattle.script_lines.specs.declared.text.LineCut.{LineCut}
use Rattle.script_lines.specs.declared.text.WordCut.{WordCut}
use Rattle.script_lines.specs.declared.text.WordCut.TheVariants.{Absent, Broken, Word}

-- the first line of a text, and the rest
pub record CutsLine (text : List ℕ) (cut : LineCut) : Type 0 where
  pub first : lines text ≡ cut.line.now ∷ lines cut.rest.now
  pub shorter : length cut.rest.now < length text
  pub within : length cut.line.now + length cut.rest.now ≤ length text

-- The first line of a text, which a line feed ends, and the rest. The line stays the first, whatever
-- text is put in the place of the rest.
pub record CutsEndedLine (text : List ℕ) (cut : LineCut) : Type 0 where
  pub front : List ℕ
  pub parts : text ≡ front ++ cut.rest.now
  pub ended : (rest : List ℕ) → lines (front ++ rest) ≡ cut.line.now ∷ lines rest
  pub shorter : length cut.rest.now < length text

-- A text of one line, which no line feed ends, or no text.
abbrev pub IsUnended : List ℕ → Type 0
IsUnended text = 0 < length text → lines text ≡ text ∷ []

-- whether a quoted word may end before a text
abbrev pub ends_word : List ℕ → Bool
ends_word [] = true
ends_word (b ∷ bs) = is_blank b

-- the first word of a text, and the rest
abbrev pub CutsWord : List ℕ → WordCut → Type 0
CutsWord text Absent = words_of text ≡ Ok []
CutsWord text Broken = (words_of text ≡ Err 1) × (0 < length text)
CutsWord text (Word word rest) = (words_of text ≡ with_word word.now (words_of rest.now)) × (length rest.now < length text)
