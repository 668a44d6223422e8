-- The line about a part of a file is empty exactly if the part is sound.
use Rattle.std.proofs.Common.{◌≡◌, ℕ, suc, ◌+◌, ◌<◌, Bool, true, false, Option, List, [], ◌++◌, drop, sym, ap, subst, ◌∙◌, arith, drop-cons}
use Rattle.std.specs.Prelude.{not}
use Rattle.std.specs.List.{concat}
use Rattle.std.proofs.lemmas.List.FromFn.{length-map-range_with_len, get_or-map-range_with_len}
use Rattle.palm_text.specs.Counted.{Writing, Writes}
use Rattle.palm_text.proofs.Parts.{nothing, then, stops}
use Rattle.heap_model.specs.Lists.{numbered}
use Rattle.heap_model.specs.Database.{Entry, entry_data, entry_in}
use Rattle.canonical_file.specs.Changes.{word}
use Rattle.canonical_file.specs.Salvage.{dropped_entry, is_sound_entry, lost_entry_line}

-- a line that is written if a test fails
pub no_word : (b test : Bool) (text : List ℕ) → b ≡ test → b ≡ true → word (not test) text ≡ []
no_word b test text is holds = ap (λ (t : Bool). word (not t) text) (sym is ∙ holds)

pub one_word : (b test : Bool) (text : List ℕ) → b ≡ test → b ≡ false → word (not test) text ≡ text
one_word b test text is fails = ap (λ (t : Bool). word (not t) text) (sym is ∙ fails)

module _ {W : Type 0} (contents : W → Option (List ℕ)) where
  pub writes_no_word : (out : Writing W) (b test : Bool) (text : List ℕ) → b ≡ test → b ≡ true
      → Writes contents out out (word (not test) text) true
  writes_no_word out b test text is holds =
      rw (← (no_word b test text is holds)) at (nothing contents out)

  pub writes_one_word : (old new : Writing W) (ok b test : Bool) (text : List ℕ) → b ≡ test
      → b ≡ false → Writes contents old new text ok
      → Writes contents old new (word (not test) text) ok
  writes_one_word old new ok b test text is fails writes =
      rw (← (one_word b test text is fails)) at writes

-- the line about an entry
pub entry_word : (file : List ℕ) (index : ℕ) (entry : Entry ℕ) → entry ≡ entry_in file index
    → word (not (is_sound_entry file entry)) (dropped_entry file index (entry_data entry))
    ≡ lost_entry_line file index
entry_word file index entry is =
    ap (λ (e : Entry ℕ).
    word (not (is_sound_entry file e)) (dropped_entry file index (entry_data e))) is

-- ---- one line after the other

line_at : (line : ℕ → List ℕ) (count i : ℕ) → i < count
    → concat (drop i (numbered line count)) ≡ line i ++ concat (drop (i + 1) (numbered line count))
line_at line count i below =
    let xs = numbered line count in
    let long = length-map-range_with_len line 0 count in
    let next : suc i ≡ i + 1 = omega arith in
    ap (λ (xss : List (List ℕ)). concat xss) (drop-cons xs i [] (omega arith))
    ∙ ap (λ (first : List ℕ). first ++ concat (drop (suc i) xs))
    (get_or-map-range_with_len line 0 count i i [] below (omega arith))
    ∙ ap (λ (k : ℕ). line i ++ concat (drop k xs)) next

module _ {W : Type 0} (contents : W → Option (List ℕ)) (line : ℕ → List ℕ) (count : ℕ) where
  pub then_line : (old mid new : Writing W) (i : ℕ) (ok : Bool) → i < count
      → Writes contents old mid (line i) true
      → Writes contents mid new (concat (drop (i + 1) (numbered line count))) ok
      → Writes contents old new (concat (drop i (numbered line count))) ok
  then_line old mid new i ok below first rest =
      subst (λ (text : List ℕ). Writes contents old new text ok) (sym (line_at line count i below))
      (then contents old mid new (line i)
      (concat (drop (i + 1) (numbered line count))) ok first rest)

  pub stops_line : (old new : Writing W) (i : ℕ) → i < count
      → Writes contents old new (line i) false
      → Writes contents old new (concat (drop i (numbered line count))) false
  stops_line old new i below first =
      subst (λ (text : List ℕ). Writes contents old new text false)
      (sym (line_at line count i below))
      (stops contents old new (line i) (concat (drop (i + 1) (numbered line count))) first)
