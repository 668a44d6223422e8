-- Laws on the words of a line: what they are, where it is cut.
use Rattle.std.proofs.Common.{suc, ◌≡◌, ◌==◌, ◌<◌, ◌+◌, ℕ, List, [], ◌∷◌, ◌++◌, length, take, drop, Bool, true, false, not, refl, sym, ◌∙◌, arith, rules, tests, append_assoc, append-nil}
use Rattle.std.specs.Prelude.{Result, Ok, Err, if◌then◌else◌}
use Rattle.std.specs.List.{position_or_len}
use Rattle.std.proofs.lemmas.Grind.{common_steps}
use Rattle.script_lines.specs.Words.{is_blank, is_passed_over, words_of, plain_word, quoted_word, closed_word, with_word}
use Rattle.script_lines.specs.Cuts.{ends_word}

-- the place of the first byte that is no blank, of the first that is one, and of the first quote
abbrev pub blanks : List ℕ → ℕ
blanks bs = position_or_len (λ b. not (is_blank b)) bs

abbrev pub plain : List ℕ → ℕ
plain bs = position_or_len is_blank bs

abbrev pub quote : List ℕ → ℕ
quote bs = position_or_len (λ b. b == 34) bs

drop_more : (n b : ℕ) (bs : List ℕ) → drop (1 + n) (b ∷ bs) ≡ drop n bs
drop_more n b bs = let e : 1 + n ≡ suc n = omega arith in rw e refl

take_more : (n b : ℕ) (bs : List ℕ) → take (1 + n) (b ∷ bs) ≡ b ∷ take n bs
take_more n b bs = let e : 1 + n ≡ suc n = omega arith in rw e refl

-- the first blank or other byte, by the byte before
blanks_more : (b : ℕ) (bs : List ℕ) → is_blank b ≡ true → blanks (b ∷ bs) ≡ 1 + blanks bs
blanks_more b bs e = rw e refl

blanks_none : (b : ℕ) (bs : List ℕ) → is_blank b ≡ false → blanks (b ∷ bs) ≡ 0
blanks_none b bs e = rw e refl

plain_more : (b : ℕ) (bs : List ℕ) → is_blank b ≡ false → plain (b ∷ bs) ≡ 1 + plain bs
plain_more b bs e = rw e refl

plain_none : (b : ℕ) (bs : List ℕ) → is_blank b ≡ true → plain (b ∷ bs) ≡ 0
plain_none b bs e = rw e refl

-- blanks before change nothing of a function that passes over one blank
blanks_skipped : {A : Type 0} (of : List ℕ → A) → ((b : ℕ) (bs : List ℕ) → is_blank b ≡ true → of (b ∷ bs) ≡ of bs) → (bs : List ℕ) → of (drop (blanks bs) bs) ≡ of bs
blanks_skipped of skips [] = refl
blanks_skipped of skips (b ∷ bs) = by_first (is_blank b) refl (blanks_skipped of skips bs)
  where
    by_first : (v : Bool) → is_blank b ≡ v → of (drop (blanks bs) bs) ≡ of bs → of (drop (blanks (b ∷ bs)) (b ∷ bs)) ≡ of (b ∷ bs)
    by_first true e more = rw (blanks_more b bs e, drop_more, skips b bs e) more
    by_first false e more = rw (blanks_none b bs e) refl

pub words_of-blanks : (bs : List ℕ) → words_of (drop (blanks bs) bs) ≡ words_of bs
unfolding words_of
words_of-blanks bs = blanks_skipped words_of (λ b bs e. rw e refl) bs

pub is_passed_over-blanks : (bs : List ℕ) → is_passed_over (drop (blanks bs) bs) ≡ is_passed_over bs
is_passed_over-blanks bs = blanks_skipped is_passed_over (λ b bs e. rw e refl) bs

-- after them stands no blank
pub no_blank : (bs : List ℕ) (b : ℕ) (rest : List ℕ) → drop (blanks bs) bs ≡ b ∷ rest → is_blank b ≡ false
no_blank [] b rest e = cc
no_blank (c ∷ bs) b rest e = by_first (is_blank c) refl (no_blank bs b rest)
  where
    by_first : (v : Bool) → is_blank c ≡ v → (drop (blanks bs) bs ≡ b ∷ rest → is_blank b ≡ false) → is_blank b ≡ false
    by_first true is more = more (rw (blanks_more c bs is, drop_more) at e)
    by_first false is more = let same : c ∷ bs ≡ b ∷ rest = rw (blanks_none c bs is) at e in let first : c ≡ b = cc in rw (sym first) is

pub plain_word-cut : (word bs : List ℕ) → plain_word word bs ≡ with_word (word ++ take (plain bs) bs) (words_of (drop (plain bs) bs))
unfolding words_of
plain_word-cut word [] = rw append-nil refl
plain_word-cut word (b ∷ bs) = by_first (is_blank b) refl (plain_word-cut (word ++ b ∷ []) bs)
  where
    by_first : (v : Bool) → is_blank b ≡ v → plain_word (word ++ b ∷ []) bs ≡ with_word ((word ++ b ∷ []) ++ take (plain bs) bs) (words_of (drop (plain bs) bs)) → plain_word word (b ∷ bs) ≡ with_word (word ++ take (plain (b ∷ bs)) (b ∷ bs)) (words_of (drop (plain (b ∷ bs)) (b ∷ bs)))
    by_first true e more = rw (plain_none b bs e, append-nil, e) refl
    by_first false e more = rw (plain_more b bs e, drop_more, take_more, e) (rw append_assoc at more)

pub quoted_word-open : (word bs : List ℕ) → quote bs ≡ length bs → quoted_word word bs ≡ Err 1
unfolding words_of
quoted_word-open word [] e = refl
quoted_word-open word (b ∷ bs) e = grind (arith, common_steps, quoted_word-open (word ++ b ∷ []) bs)

pub quoted_word-cut : (word bs : List ℕ) → quote bs < length bs → quoted_word word bs ≡ closed_word (word ++ take (quote bs + 1) bs) (drop (quote bs + 1) bs)
unfolding words_of
quoted_word-cut word [] e = absurd (omega arith)
quoted_word-cut word (b ∷ bs) e = grind (arith, common_steps, quoted_word-cut (word ++ b ∷ []) bs)

pub closed_word-cut : (word bs : List ℕ) → closed_word word bs ≡ (if ends_word bs then with_word word (words_of bs) else Err 1)
unfolding words_of
closed_word-cut word [] = refl
closed_word-cut word (b ∷ bs) = grind (arith, common_steps)

-- what the first byte after the blanks says of a line
pub passed_at : (text : List ℕ) (b : ℕ) (inside : List ℕ) → drop (blanks text) text ≡ b ∷ inside → is_passed_over text ≡ (b == 35)
passed_at text b inside e = sym (is_passed_over-blanks text) ∙ rw (e, no_blank text b inside e) refl

pub passed_none : (text : List ℕ) → drop (blanks text) text ≡ [] → is_passed_over text ≡ true
passed_none text e = sym (is_passed_over-blanks text) ∙ rw e refl

pub words_none : (text : List ℕ) → drop (blanks text) text ≡ [] → words_of text ≡ Ok []
unfolding words_of
words_none text e = sym (words_of-blanks text) ∙ rw e refl

-- a plain word goes up to the next blank
pub plain_at : (text : List ℕ) (b : ℕ) (inside : List ℕ) → drop (blanks text) text ≡ b ∷ inside → (b ≡ 34 → ⊥) → (words_of text ≡ with_word (take (plain (b ∷ inside)) (b ∷ inside)) (words_of (drop (plain (b ∷ inside)) (b ∷ inside)))) × (0 < plain (b ∷ inside))
unfolding words_of
plain_at text b inside e other =
    let black = no_blank text b inside e in
    let unquoted : (b == 34) ≡ false = search (rules, tests) in
    (sym (words_of-blanks text) ∙ rw (e, black, unquoted, plain_word-cut (b ∷ []) inside, take_more, drop_more) refl, rw (plain_more b inside black) (omega arith))

two_more : (n b : ℕ) (bs : List ℕ) → (take (n + 2) (b ∷ bs) ≡ b ∷ take (n + 1) bs) × (drop (n + 2) (b ∷ bs) ≡ drop (n + 1) bs)
two_more n b bs = let e : n + 2 ≡ suc (n + 1) = omega arith in (rw e refl, rw e refl)

-- a quoted one goes up to the next quote
pub open_at : (text inside : List ℕ) → drop (blanks text) text ≡ 34 ∷ inside → quote inside ≡ length inside → words_of text ≡ Err 1
unfolding words_of
open_at text inside e unclosed = sym (words_of-blanks text) ∙ rw e (quoted_word-open (34 ∷ []) inside unclosed)

pub quoted_at : (text inside : List ℕ) → drop (blanks text) text ≡ 34 ∷ inside → quote inside < length inside → words_of text ≡ (if ends_word (drop (quote inside + 2) (34 ∷ inside)) then with_word (take (quote inside + 2) (34 ∷ inside)) (words_of (drop (quote inside + 2) (34 ∷ inside))) else Err 1)
unfolding words_of
quoted_at text inside e within = sym (words_of-blanks text) ∙ rw (e, quoted_word-cut (34 ∷ []) inside within, closed_word-cut, (two_more (quote inside) 34 inside).0, (two_more (quote inside) 34 inside).1) refl

-- a count of words, or the number of the broken one, with some words before
abbrev pub counted_behind : ℕ → Result ℕ ℕ → Result ℕ ℕ
counted_behind front (Ok count) = Ok (front + count)
counted_behind front (Err number) = Err (front + number)
