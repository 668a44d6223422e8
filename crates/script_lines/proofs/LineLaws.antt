-- Laws on the lines of a text: its first line and the rest.
use Rattle.std.proofs.Common.{add-one, suc, zero, ◌≡◌, ◌==◌, ◌<◌, ◌≤◌, ◌+◌, ℕ, List, [], ◌∷◌, ◌++◌, length, length-append, take, drop, get_or, false, refl, ap, ◌∙◌, arith, rules, tests}
use Rattle.std.specs.List.{position_or_len, slice_split}
use Rattle.std.specs.Str.Lines.{lines, lines_of_parts, strip_carriage_return}
use Rattle.std.proofs.lemmas.List.Splits.{slice_split_first, slice_split_none, length-slice_split}
use Rattle.std.proofs.lemmas.List.{get_or_append_left, get_or-take, take-append-le, drop-append-le, take-take, length-take-le}
use Rattle.std.proofs.lemmas.List.Sums.{fails_before_first, passes_at_first, position_or_len_is}
use Rattle.std.proofs.Math.ListN.{drop_of_length-le}

-- the parts between line feeds, and how many bytes stand before the first
abbrev pub parts : List ℕ → List (List ℕ)
parts bs = slice_split (λ b. b == 10) bs

abbrev pub feed : List ℕ → ℕ
feed bs = position_or_len (λ b. b == 10) bs

onto : (x : List ℕ) (ps : List (List ℕ)) → 0 < length ps → lines_of_parts (x ∷ ps) ≡ strip_carriage_return x ∷ lines_of_parts ps
onto x [] some = absurd (omega arith)
onto x (y ∷ ps) some = refl

-- a line that a line feed ends loses the carriage return before it
pub lines_ended : (bs : List ℕ) → feed bs < length bs → lines bs ≡ strip_carriage_return (take (feed bs) bs) ∷ lines (drop (feed bs + 1) bs)
lines_ended bs within =
    ap lines_of_parts (slice_split_first (λ b. b == 10) bs 0 within) ∙ onto (take (feed bs) bs) (parts (drop (feed bs + 1) bs)) (omega (arith, length-slice_split (λ b. b == 10) (drop (feed bs + 1) bs)))

one : (bs : List ℕ) → 0 < length bs → lines_of_parts (bs ∷ []) ≡ bs ∷ []
one [] some = absurd (omega arith)
one (b ∷ bs) some = let e : (length (b ∷ bs) == 0) ≡ false = search (rules, tests) in rw e refl

-- the last line, which no line feed ends, stays as it is
pub lines_last : (bs : List ℕ) → 0 < length bs → length bs ≤ feed bs → lines bs ≡ bs ∷ []
lines_last bs some last =
    ap lines_of_parts (slice_split_none (λ b. b == 10) bs (λ k d below. fails_before_first (λ b. b == 10) bs k d (omega arith))) ∙ one bs some

behind_first : (n b : ℕ) (bs rest : List ℕ) → drop n bs ≡ b ∷ rest → drop (suc n) bs ≡ rest
behind_first zero b [] rest e = cc
behind_first zero b (x ∷ bs) rest e = cc
behind_first (suc n) b [] rest e = cc
behind_first (suc n) b (x ∷ bs) rest e = behind_first n b bs rest e

-- what stands after the byte at a place
pub drop_next : (n b : ℕ) (bs rest : List ℕ) → drop n bs ≡ b ∷ rest → drop (n + 1) bs ≡ rest
drop_next n b bs rest e = rw add-one (behind_first n b bs rest e)

-- ---- a first line, and any text after it

-- the first line with its line feed
abbrev pub ended_front : List ℕ → List ℕ
ended_front bs = take (feed bs + 1) bs

module _ (bs more : List ℕ) (within : feed bs < length bs) where
  long : length (ended_front bs) ≡ feed bs + 1
  long = length-take-le (feed bs + 1) bs (omega arith)

  same_byte : (k : ℕ) → k < feed bs + 1 → get_or (ended_front bs ++ more) k 0 ≡ get_or bs k 0
  same_byte k below = get_or_append_left (ended_front bs) more 0 k (omega (arith, long)) ∙ get_or-take (feed bs + 1) bs k 0 below

  same_feed : feed (ended_front bs ++ more) ≡ feed bs
  same_feed = position_or_len_is (λ b. b == 10) (ended_front bs ++ more) (feed bs) 0
      (omega (arith, long, length-append (ended_front bs) more))
      (λ k below. rw (same_byte k (omega arith)) (fails_before_first (λ b. b == 10) bs k 0 below))
      (λ _. rw (same_byte (feed bs) (omega arith)) (passes_at_first (λ b. b == 10) bs 0 within))

  same_line : take (feed bs) (ended_front bs ++ more) ≡ take (feed bs) bs
  same_line = take-append-le (feed bs) (ended_front bs) more (omega (arith, long)) ∙ take-take (feed bs) (feed bs + 1) bs (omega arith)

  same_rest : drop (feed bs + 1) (ended_front bs ++ more) ≡ more
  same_rest = drop-append-le (feed bs + 1) (ended_front bs) more (omega (arith, long)) ∙ ap (λ l. l ++ more) (drop_of_length-le (ended_front bs) (omega (arith, long)))

  -- the line stays, whatever text comes after it
  pub lines_ended_front : lines (ended_front bs ++ more) ≡ strip_carriage_return (take (feed bs) bs) ∷ lines more
  lines_ended_front =
      let is : lines (ended_front bs ++ more) ≡ strip_carriage_return (take (feed (ended_front bs ++ more)) (ended_front bs ++ more)) ∷ lines (drop (feed (ended_front bs ++ more) + 1) (ended_front bs ++ more)) = lines_ended (ended_front bs ++ more) (omega (arith, same_feed, long, length-append (ended_front bs) more)) in
      rw (same_feed, same_line, same_rest) at is
