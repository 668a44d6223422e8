-- Changes of the entries of a database one after the other, in the order of their indexes: the
-- entries after the first `count` changes, and after all.
use Rattle.record_db.proofs.Words.{◌≡◌, ℕ, zero, suc, ◌<◌, ◌≤◌, ◌++◌, List, [], ◌∷◌, length, map, take, drop, Option, Some, None, refl, ap, ◌∙◌, arith, take_all, drop_all, append-nil, slice_get, Entry, replaced_if, replaced}

-- the first of some entries changed
abbrev pub first_changed : (Entry ℕ → Entry ℕ) → ℕ → List (Entry ℕ) → List (Entry ℕ)
first_changed change count entries = map change (take count entries) ++ drop count entries

pub none_changed : (change : Entry ℕ → Entry ℕ) (entries : List (Entry ℕ)) → first_changed change 0 entries ≡ entries
none_changed change [] = refl
none_changed change (entry ∷ entries) = refl

pub all_changed : (change : Entry ℕ → Entry ℕ) (count : ℕ) (entries : List (Entry ℕ)) → length entries ≤ count → first_changed change count entries ≡ map change entries
all_changed change count entries all =
    rw (take_all count entries all, drop_all count entries all) (append-nil (map change entries))

-- the entries after them are as they were
pub later_kept : (change : Entry ℕ → Entry ℕ) (count at : ℕ) (entries : List (Entry ℕ)) → count ≤ at → slice_get (first_changed change count entries) at ≡ slice_get entries at
later_kept change zero at [] order = refl
later_kept change zero at (entry ∷ entries) order = refl
later_kept change (suc count) zero entries order = absurd (omega (arith, order))
later_kept change (suc count) (suc at) [] order = refl
later_kept change (suc count) (suc at) (entry ∷ entries) order = later_kept change count at entries (omega (arith, order))

-- with the next one changed too they are one more
pub next_changed : (change : Entry ℕ → Entry ℕ) (count : ℕ) (entries : List (Entry ℕ)) → count < length entries → replaced (first_changed change count entries) count change ≡ first_changed change (suc count) entries
next_changed change count [] below = absurd (omega arith)
next_changed change zero (entry ∷ entries) below = refl
next_changed change (suc count) (entry ∷ entries) below =
    let rest : List (Entry ℕ) = first_changed change count entries in
    behind (change entry) rest (slice_get rest count) ∙ ap (λ (xs : List (Entry ℕ)). change entry ∷ xs) (next_changed change count entries (omega arith)) where
      behind : (first : Entry ℕ) (xs : List (Entry ℕ)) (x : Option (Entry ℕ)) → replaced_if (first ∷ xs) (suc count) change x ≡ first ∷ replaced_if xs count change x
      behind first xs None = refl
      behind first xs (Some entry) = refl
