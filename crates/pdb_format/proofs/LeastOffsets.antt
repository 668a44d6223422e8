-- A loop over offsets finds the least one above 0. In a file without fault it is after the entries.
use Rattle.std.proofs.Common.{◌≡◌, ℕ, zero, suc, ◌<◌, ◌≤◌, Bool, true, false, cond, List, [], ◌∷◌, length, get_or, ap, ◌∙◌, arith}
use Rattle.std.specs.Prelude.{min, nat_lt, filter}
use Rattle.std.specs.List.{fold}
use Rattle.std.proofs.lemmas.Bool.{lt-ltb, le-ltb}
use Rattle.heap_model.specs.Files.{HasNoFault, entries_end, offsets_in}
use Rattle.pdb_format.specs.Filler.{first_start}
use Rattle.pdb_format.proofs.GoodFiles.{not_truncated, offset_after}

pub passed_over : (test : ℕ → Bool) (x : ℕ) (xs : List ℕ) → test x ≡ false
    → filter test (x ∷ xs) ≡ filter test xs
passed_over test x xs e = ap (λ (b : Bool). cond b (x ∷ filter test xs) (filter test xs)) e

pub kept : (test : ℕ → Bool) (x : ℕ) (xs : List ℕ) → test x ≡ true
    → filter test (x ∷ xs) ≡ x ∷ filter test xs
kept test x xs e = ap (λ (b : Bool). cond b (x ∷ filter test xs) (filter test xs)) e

-- ---- one step over offsets that need not rise

pub lesser_here : (first at : ℕ) (rest : List ℕ) → 0 < at → at < first
    → fold min first (filter (nat_lt 0) (at ∷ rest)) ≡ fold min at (filter (nat_lt 0) rest)
lesser_here first at rest some less =
    let least : min first at ≡ at = omega arith in
    ap (fold min first) (kept (nat_lt 0) at rest (lt-ltb 0 at some))
    ∙ ap (λ (k : ℕ). fold min k (filter (nat_lt 0) rest)) least

pub lesser_stays : (first at : ℕ) (rest : List ℕ) → first ≤ at
    → fold min first (filter (nat_lt 0) (at ∷ rest)) ≡ fold min first (filter (nat_lt 0) rest)
lesser_stays first zero rest less =
    ap (fold min first) (passed_over (nat_lt 0) 0 rest (le-ltb 0 0 (omega arith)))
lesser_stays first (suc at) rest less =
    let least : min first (suc at) ≡ first = omega arith in
    ap (fold min first) (kept (nat_lt 0) (suc at) rest (lt-ltb 0 (suc at) (omega arith)))
    ∙ ap (λ (k : ℕ). fold min k (filter (nat_lt 0) rest)) least

pub lesser_none : (first at : ℕ) (rest : List ℕ) → at ≡ 0
    → fold min first (filter (nat_lt 0) (at ∷ rest)) ≡ fold min first (filter (nat_lt 0) rest)
lesser_none first zero rest none =
    ap (fold min first) (passed_over (nat_lt 0) 0 rest (le-ltb 0 0 (omega arith)))
lesser_none first (suc at) rest none = absurd (omega arith)

-- the least is no more than the number
pub least_most : (last : ℕ) (os : List ℕ) → fold min last os ≤ last
least_most last [] = omega arith
least_most last (o ∷ os) = let rest = least_most (min last o) os in omega arith

-- and no less than a number that all of them reach
least_reaches : (low last : ℕ) (os : List ℕ) → low ≤ last
    → ((k : ℕ) → 0 < get_or os k 0 → low ≤ get_or os k 0)
    → low ≤ fold min last (filter (nat_lt 0) os)
least_reaches low last [] less all = less
least_reaches low last (zero ∷ os) less all =
    rw (passed_over (nat_lt 0) 0 os (le-ltb 0 0 (omega arith)))
    (least_reaches low last os less (λ k. all (suc k)))
least_reaches low last (suc at ∷ os) less all =
    let here = all 0 (omega arith) in
    rw (kept (nat_lt 0) (suc at) os (lt-ltb 0 (suc at) (omega arith)))
    (least_reaches low (min last (suc at)) os (omega arith) (λ k. all (suc k)))

-- the first block of a file comes after the entries
pub first_after : (file : List ℕ) → HasNoFault file → entries_end file ≤ first_start file
first_after file good =
    least_reaches (entries_end file) (length file) (offsets_in file) (not_truncated file good).1
    (λ rank some. offset_after file good rank some)
