-- The words of a line.
use Rattle.std.specs.Prelude.{ℕ, ◌+◌, ◌==◌, ◌||◌, Bool, true, if◌then◌else◌, List, [], ◌∷◌, ◌++◌, length, Result, Ok, Err}

-- a space or a tab, which separate words
abbrev pub is_blank : ℕ → Bool
is_blank b = (b == 32) || (b == 9)

-- a line that is passed over: one without words, or whose first word starts with `#`
abbrev pub is_passed_over : List ℕ → Bool
is_passed_over [] = true
is_passed_over (b ∷ bs) = if is_blank b then is_passed_over bs else b == 35

-- words with one more word before them, which also counts in the number of a broken word
abbrev pub with_word : List ℕ → Result (List (List ℕ)) ℕ → Result (List (List ℕ)) ℕ
with_word word (Ok words) = Ok (word ∷ words)
with_word word (Err number) = Err (number + 1)

-- A word is the bytes up to a space, a tab or the end. A word that starts with `"` goes on to the
-- next `"` instead, which a space, a tab or the end must follow. Otherwise the word is broken. The
-- result is all words of a line, with their quotes, or the number of its first broken word, counted
-- from 1.
unfoldable mutual
  -- the words of a line, or of the text after a word
  pub words_of : List ℕ → Result (List (List ℕ)) ℕ
  words_of [] = Ok []
  words_of (b ∷ bs) =
      if is_blank b then words_of bs
      else if b == 34 then quoted_word (b ∷ []) bs
      else plain_word (b ∷ []) bs

  -- the same, after the first bytes `word` of a word that starts with another byte than `"`
  pub plain_word : List ℕ → List ℕ → Result (List (List ℕ)) ℕ
  plain_word word [] = Ok (word ∷ [])
  plain_word word (b ∷ bs) = if is_blank b then with_word word (words_of bs) else plain_word (word ++ b ∷ []) bs

  -- the same, after the first bytes `word` of a word that starts with `"`
  pub quoted_word : List ℕ → List ℕ → Result (List (List ℕ)) ℕ
  quoted_word word [] = Err 1
  quoted_word word (b ∷ bs) = if b == 34 then closed_word (word ++ b ∷ []) bs else quoted_word (word ++ b ∷ []) bs

  -- the same, after the closing quote of a word
  pub closed_word : List ℕ → List ℕ → Result (List (List ℕ)) ℕ
  closed_word word [] = Ok (word ∷ [])
  closed_word word (b ∷ bs) = if is_blank b then with_word word (words_of bs) else Err 1

-- the number of words, or that of the broken one
abbrev pub word_count : Result (List (List ℕ)) ℕ → Result ℕ ℕ
word_count (Ok words) = Ok (length words)
word_count (Err number) = Err number
