-- The statements of the laws: printed texts are read back.
use Rattle.std.specs.Prelude.{◌≡◌, ◌<◌, ◌^◌, ℕ, List, [], ◌∷◌, Some, Ok}
use Rattle.heap_model.specs.Bytes.{AreBytes, u32_bytes}
use Rattle.palm_text.specs.Pieces.{script_spelled}
use Rattle.script_lines.specs.Words.{words_of}
use Rattle.script_lines.specs.Spellings.{spelled_text, spelled_four}

-- a text is printed as one word
abbrev pub TextsAreWords : Type 0
TextsAreWords = (text : List ℕ) → AreBytes text → words_of (script_spelled text) ≡ Ok (script_spelled text ∷ [])

-- the word as which a text is printed spells that text
abbrev pub TextsAreReadBack : Type 0
TextsAreReadBack = (text : List ℕ) → AreBytes text → spelled_text (script_spelled text) ≡ Some text

-- the word as which the four bytes of a number are printed spells that number
abbrev pub FourBytesAreReadBack : Type 0
FourBytesAreReadBack = (number : ℕ) → number < 2 ^ 32 → spelled_four (script_spelled (u32_bytes number)) ≡ Some number
