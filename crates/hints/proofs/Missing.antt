-- Lines one after another.
use Rattle.std.proofs.Common.{◌≡◌, ◌∙◌, ℕ, ◌+◌, ◌<◌, ◌≤◌, min, zero, suc, List, [], ◌∷◌, ◌++◌, length, drop, get_or, refl, sym, ap, add-one, drop-cons, append-nil, append_assoc, arith}
use Rattle.std.proofs.lemmas.List.{at_drop_all}
use Rattle.script_commands.specs.declared.line.Line.{Line}
use Rattle.hints.specs.declared.imports.MissingFile.{MissingFile}
use Rattle.hints.specs.Imports.{missing_in, missing_files}

-- those from a line on
missing_at : (count : ℕ) (lines : List Line) (numbers : List ℕ) (i : ℕ) (line : Line) (number : ℕ) → i < length lines → i < length numbers
    → missing_files count (drop i lines) (drop i numbers) ≡ missing_in count (get_or lines i line) (get_or numbers i number) ++ missing_files count (drop (i + 1) lines) (drop (i + 1) numbers)
missing_at count lines numbers i line number within numbered = rw (add-one, drop-cons lines i line within, drop-cons numbers i number numbered) refl

-- one line more
pub one_more : (count : ℕ) (lines : List Line) (numbers : List ℕ) (i : ℕ) (line : Line) (number : ℕ) (all front : List MissingFile) → i < length lines → i < length numbers
    → all ≡ front ++ missing_files count (drop i lines) (drop i numbers)
    → all ≡ (front ++ missing_in count (get_or lines i line) (get_or numbers i number)) ++ missing_files count (drop (i + 1) lines) (drop (i + 1) numbers)
one_more count lines numbers i line number all front within numbered so_far =
    so_far ∙ ap (λ (rest : List MissingFile). front ++ rest) (missing_at count lines numbers i line number within numbered)
    ∙ sym (append_assoc front (missing_in count (get_or lines i line) (get_or numbers i number)) (missing_files count (drop (i + 1) lines) (drop (i + 1) numbers)))

-- lines without numbers
none_numbered : (count : ℕ) (lines : List Line) → missing_files count lines [] ≡ []
none_numbered count [] = refl
none_numbered count (line ∷ lines) = refl

-- none after the last line, or after the last number
none_left : (count : ℕ) (lines : List Line) (numbers : List ℕ) (i : ℕ) → min (length lines) (length numbers) ≤ i → missing_files count (drop i lines) (drop i numbers) ≡ []
none_left count [] numbers i past = at_drop_all (λ (ls : List Line). missing_files count ls (drop i numbers)) [] i (omega arith)
none_left count (line ∷ lines) [] i past = at_drop_all (λ (ns : List ℕ). missing_files count (drop i (line ∷ lines)) ns) [] i (omega arith) ∙ none_numbered count (drop i (line ∷ lines))
none_left count (line ∷ lines) (number ∷ numbers) zero past = absurd (omega (arith, past))
none_left count (line ∷ lines) (number ∷ numbers) (suc i) past = none_left count lines numbers i (omega (arith, past))

-- the ones so far are all of them
pub whole : (count : ℕ) (lines : List Line) (numbers : List ℕ) (i : ℕ) (front : List MissingFile) → min (length lines) (length numbers) ≤ i
    → missing_files count lines numbers ≡ front ++ missing_files count (drop i lines) (drop i numbers) → front ≡ missing_files count lines numbers
whole count lines numbers i front past so_far =
    sym (append-nil front) ∙ ap (λ (rest : List MissingFile). front ++ rest) (sym (none_left count lines numbers i past)) ∙ sym so_far
