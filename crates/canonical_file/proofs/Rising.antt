-- The first of offsets that rise is the least, and each block ends at the next offset.
use Rattle.std.proofs.Common.{◌≡◌, ℕ, zero, suc, ◌+◌, ◌<◌, ◌≤◌, Bool, true, false, List, [], ◌∷◌, ◌++◌, get_or, take, drop, refl, ap, ◌∙◌, arith}
use Rattle.std.specs.Prelude.{◌↔◌, min, nat_lt, nat_le, filter}
use Rattle.std.specs.List.{fold}
use Rattle.std.proofs.lemmas.Bool.{lt-ltb, le-ltb}
use Rattle.heap_model.specs.Files.{starts_behind}
use Rattle.laws_heap.proofs.Tests.{leb-is-true, lt-leb-false}
use Rattle.pdb_format.proofs.LeastOffsets.{passed_over, kept}
use Rattle.canonical_file.specs.Changes.{AreRising}

-- the first offset that isn't 0, or a number if there is none
abbrev pub first_of : ℕ → List ℕ → ℕ
first_of last [] = last
first_of last (zero ∷ offsets) = first_of last offsets
first_of last (suc at ∷ offsets) = suc at

-- ---- from which number on they rise

pub rising_lower : (lower low : ℕ) (os : List ℕ) → lower ≤ low → AreRising low os
    → AreRising lower os
rising_lower lower low [] less rising = tt
rising_lower lower low (zero ∷ os) less rising = rising_lower lower low os less rising
rising_lower lower low (suc at ∷ os) less rising = (let first = rising.0 in omega arith, rising.1)

-- one more before the others
pub rising_more : (low at : ℕ) (rest : List ℕ) → 0 < at → low ≤ at
    → (AreRising low (at ∷ rest) ↔ AreRising at rest)
rising_more low zero rest some less = absurd (omega arith)
rising_more low (suc at) rest some less = (λ rising. rising.1, λ rising. (less, rising))

pub not_rising : (low at : ℕ) (rest : List ℕ) → 0 < at → at < low → AreRising low (at ∷ rest) → ⊥
not_rising low zero rest some less rising = omega arith
not_rising low (suc at) rest some less rising = (let first = rising.0 in omega arith)

-- each is no less than the number, and than each before it
rising_above : (low : ℕ) (os : List ℕ) (k : ℕ) → AreRising low os → 0 < get_or os k 0
    → low ≤ get_or os k 0
rising_above low [] k rising some = absurd (omega arith)
rising_above low (zero ∷ os) zero rising some = absurd (omega arith)
rising_above low (zero ∷ os) (suc k) rising some = rising_above low os k rising some
rising_above low (suc at ∷ os) zero rising some = rising.0
rising_above low (suc at ∷ os) (suc k) rising some =
    let first = rising.0 in
    let rest = rising_above (suc at) os k rising.1 some in
    omega arith

pub rising_pair : (low : ℕ) (os : List ℕ) (j k : ℕ) → AreRising low os → j < k → 0 < get_or os k 0
    → get_or os j 0 ≤ get_or os k 0
rising_pair low [] j k rising less some = absurd (omega arith)
rising_pair low (o ∷ os) j zero rising less some = absurd (omega arith)
rising_pair low (zero ∷ os) zero (suc k) rising less some = omega arith
rising_pair low (zero ∷ os) (suc j) (suc k) rising less some =
    rising_pair low os j k rising (omega arith) some
rising_pair low (suc at ∷ os) zero (suc k) rising less some = rising_above _ os k rising.1 some
rising_pair low (suc at ∷ os) (suc j) (suc k) rising less some =
    rising_pair _ os j k rising.1 (omega arith) some

-- ---- the first of them

pub first_low : (low last : ℕ) (os : List ℕ) → AreRising low os → low ≤ last
    → low ≤ first_of last os
first_low low last [] rising less = less
first_low low last (zero ∷ os) rising less = first_low low last os rising less
first_low low last (suc at ∷ os) rising less = rising.0

pub first_most : (last : ℕ) (os : List ℕ) → ((k : ℕ) → get_or os k 0 ≤ last)
    → first_of last os ≤ last
first_most last [] most = omega arith
first_most last (zero ∷ os) most = first_most last os (λ k. most (suc k))
first_most last (suc at ∷ os) most = most 0

-- a test that passes over 0, and no offset from a number on
pub record Passes (test : ℕ → Bool) (low : ℕ) : Type 0 where
  pub none : test 0 ≡ false
  pub all : (x : ℕ) → low ≤ x → 0 < x → test x ≡ true

higher : (test : ℕ → Bool) (low high : ℕ) → low ≤ high → Passes test low → Passes test high
higher test low high less passes =
    record { none = passes.none; all = λ x above some. passes.all x (omega arith) some }

least_stays : (test : ℕ → Bool) (m : ℕ) (os : List ℕ) → Passes test m → AreRising m os
    → fold min m (filter test os) ≡ m
least_stays test m [] passes rising = refl
least_stays test m (zero ∷ os) passes rising =
    ap (fold min m) (passed_over test 0 os passes.none) ∙ least_stays test m os passes rising
least_stays test m (suc at ∷ os) passes rising =
    let first = rising.0 in
    let least : min m (suc at) ≡ m = omega arith in
    ap (fold min m) (kept test (suc at) os (passes.all (suc at) first (omega arith)))
    ∙ ap (λ (k : ℕ). fold min k (filter test os)) least
    ∙ least_stays test m os passes (rising_lower m (suc at) os first rising.1)

-- is the least
pub least_first : (test : ℕ → Bool) (low last : ℕ) (os : List ℕ) → Passes test low
    → AreRising low os → ((k : ℕ) → get_or os k 0 ≤ last)
    → fold min last (filter test os) ≡ first_of last os
least_first test low last [] passes rising most = refl
least_first test low last (zero ∷ os) passes rising most =
    ap (fold min last) (passed_over test 0 os passes.none)
    ∙ least_first test low last os passes rising (λ k. most (suc k))
least_first test low last (suc at ∷ os) passes rising most =
    let first = rising.0 in
    let within = most 0 in
    let least : min last (suc at) ≡ suc at = omega arith in
    ap (fold min last) (kept test (suc at) os (passes.all (suc at) first (omega arith)))
    ∙ ap (λ (k : ℕ). fold min k (filter test os)) least
    ∙ least_stays test (suc at) os (higher test low (suc at) first passes) rising.1

pub some_pass : Passes (nat_lt 0) 0
some_pass = record { none = le-ltb 0 0 (omega arith); all = λ x low some. lt-ltb 0 x some }

pub behind_pass : (at : ℕ) → 0 < at → Passes (nat_le at) at
behind_pass at some =
    record { none = lt-leb-false at 0 some; all = λ x above positive. leb-is-true at x above }

-- ---- where a block ends

none_behind : (at k : ℕ) (os : List ℕ) → ((j : ℕ) → j < k → get_or os j 0 ≤ at)
    → filter (nat_lt at) (take k os) ≡ []
none_behind at zero os below = refl
none_behind at (suc k) [] below = refl
none_behind at (suc k) (o ∷ os) below =
    passed_over (nat_lt at) o (take k os) (le-ltb at o (below 0 (omega arith)))
    ∙ none_behind at k os (λ j less. below (suc j) (omega arith))

-- where the next one begins that is there
pub end_is : (os : List ℕ) (rank at last : ℕ) → 0 < at → get_or os rank 0 ≡ at → AreRising 0 os
    → AreRising at (drop (rank + 1) os) → ((k : ℕ) → get_or (drop (rank + 1) os) k 0 ≤ last)
    → fold min last (starts_behind os rank at) ≡ first_of last (drop (rank + 1) os)
end_is os rank at last some here rising behind most =
    ap (λ (xs : List ℕ). fold min last (xs ++ filter (nat_le at) (drop (rank + 1) os)))
    (none_behind at rank os
    (λ j less. (let pair = rising_pair 0 os j rank rising less (omega arith) in omega arith)))
    ∙ least_first (nat_le at) at last (drop (rank + 1) os) (behind_pass at some) behind most
