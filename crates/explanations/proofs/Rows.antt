-- Rows that are written one after another.
use Rattle.std.proofs.Common.{◌≡◌, ◌∙◌, ℕ, suc, ◌+◌, ◌<◌, List, [], ◌∷◌, ◌++◌, length, drop, get_or, Option, refl, sym, ap, Bool, true, false, add-one, drop-cons, append_assoc}
use Rattle.std.specs.Prelude.{◌||◌}
use Rattle.std.proofs.lemmas.List.Folds.{list_any-append}
use Rattle.palm_text.specs.Counted.{Writing, Writes}
use Rattle.palm_text.proofs.Parts.{then, stops}
use Rattle.std.specs.Borrow.{Bor}
use Rattle.explanations.specs.declared.table.Subject.{Subject}
use Rattle.explanations.specs.Explained.{Explanation, row_read, rows_read, line_if_asked, answers, is_among, is_asked, rows_of_sections, section_rows}
use Rattle.explanations.specs.declared.table.Section.{Section}

-- a row that the program reads
abbrev Row : Type 0
Row = Subject × (Bor (List ℕ) × Bor (List ℕ))

-- the text from a row on
text_at : (word : List ℕ) (rows : List Row) (i : ℕ) (d : Row) → i < length rows → answers word (rows_read (drop i rows)) ≡ line_if_asked word (row_read (get_or rows i d)) ++ answers word (rows_read (drop (i + 1) rows))
text_at word rows i d within = rw (add-one, drop-cons rows i d) refl

pub then_row : {W : Type 0} (contents : W → Option (List ℕ)) (old mid new : Writing W) (word : List ℕ) (rows : List Row) (i : ℕ) (d : Row) (ok : Bool) → i < length rows → Writes contents old mid (line_if_asked word (row_read (get_or rows i d))) true → Writes contents mid new (answers word (rows_read (drop (i + 1) rows))) ok → Writes contents old new (answers word (rows_read (drop i rows))) ok
then_row contents old mid new word rows i d ok within first rest = rw (text_at word rows i d within) (then contents old mid new _ _ ok first rest)

pub stops_row : {W : Type 0} (contents : W → Option (List ℕ)) (old new : Writing W) (word : List ℕ) (rows : List Row) (i : ℕ) (d : Row) → i < length rows → Writes contents old new (line_if_asked word (row_read (get_or rows i d))) false → Writes contents old new (answers word (rows_read (drop i rows))) false
stops_row contents old new word rows i d within first = rw (text_at word rows i d within) (stops contents old new _ _ first)

-- whether a word is among the rows from a row on
pub among_row : (word : List ℕ) (rows : List Row) (i : ℕ) (d : Row) → i < length rows → is_among word (rows_read (drop i rows)) ≡ (is_asked word (row_read (get_or rows i d)) || is_among word (rows_read (drop (i + 1) rows)))
among_row word rows i d within = rw (add-one, drop-cons rows i d) refl

-- ---- rows of one section after another

answers-append : (word : List ℕ) (xs ys : List Explanation) → answers word (xs ++ ys) ≡ answers word xs ++ answers word ys
answers-append word [] ys = refl
answers-append word (x ∷ xs) ys = ap (λ (rest : List ℕ). line_if_asked word x ++ rest) (answers-append word xs ys) ∙ sym (append_assoc (line_if_asked word x) (answers word xs) (answers word ys))

-- the text from a section on
section_at : (word : List ℕ) (sections : List Section) (i : ℕ) (d : Section) → i < length sections → answers word (rows_of_sections (drop i sections)) ≡ answers word (section_rows (get_or sections i d)) ++ answers word (rows_of_sections (drop (i + 1) sections))
section_at word sections i d within = rw (add-one, drop-cons sections i d) (answers-append word (section_rows (get_or sections i d)) (rows_of_sections (drop (suc i) sections)))

pub then_section : {W : Type 0} (contents : W → Option (List ℕ)) (old mid new : Writing W) (word : List ℕ) (sections : List Section) (i : ℕ) (d : Section) (ok : Bool) → i < length sections → Writes contents old mid (answers word (section_rows (get_or sections i d))) true → Writes contents mid new (answers word (rows_of_sections (drop (i + 1) sections))) ok → Writes contents old new (answers word (rows_of_sections (drop i sections))) ok
then_section contents old mid new word sections i d ok within first rest = rw (section_at word sections i d within) (then contents old mid new _ _ ok first rest)

pub stops_section : {W : Type 0} (contents : W → Option (List ℕ)) (old new : Writing W) (word : List ℕ) (sections : List Section) (i : ℕ) (d : Section) → i < length sections → Writes contents old new (answers word (section_rows (get_or sections i d))) false → Writes contents old new (answers word (rows_of_sections (drop i sections))) false
stops_section contents old new word sections i d within first = rw (section_at word sections i d within) (stops contents old new _ _ first)

-- whether a word is among the rows from a section on
pub among_at : (word : List ℕ) (sections : List Section) (i : ℕ) (d : Section) → i < length sections → is_among word (rows_of_sections (drop i sections)) ≡ (is_among word (section_rows (get_or sections i d)) || is_among word (rows_of_sections (drop (i + 1) sections)))
among_at word sections i d within = rw (add-one, drop-cons sections i d) (list_any-append (is_asked word) (section_rows (get_or sections i d)) (rows_of_sections (drop (suc i) sections)))
