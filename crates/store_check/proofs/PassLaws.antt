-- A pass over the headers, and one over the entries, finds the first fault or that there is none.
use Rattle.store_check.proofs.Terms.{◌≡◌, ℕ, ◌+◌, ◌<◌, ◌≤◌, List, length, get_or, set, take, refl, sym, subst, ◌∙◌, length-take-le, get_or-take, arith, inl, inr, cases_lt, get_or_from_slice_get, slice_get_within, Least, entry_in, entry_count_in, HasData, FirstBrought, BadHeader, Body, HasBody, listed_at, listed_count, header_at, IsGoodDirectory, NotesListed, HasDatabaseHeader, IsBadHeader, HasBadEntry, HasGoodEntries, IsBadEntry, header_faults}
use Rattle.std.proofs.Common.{get_or-set_same, get_or-set_other}

-- none so far, and not this one
pub none_more : (P : ℕ → Type 0) (n : ℕ) → (P n → ⊥) → ((k : ℕ) → k < n → P k → ⊥) → (k : ℕ)
    → k < n + 1 → P k → ⊥
none_more P n good none k below bad = elim (cases_lt k n) [
  | inl less ↦ none k less bad
  | inr last ↦ let is : k ≡ n = omega arith in good (subst P is bad)
]

pub header_good : (image bytes : List ℕ) (db : ℕ) → bytes ≡ header_at image db
    → HasDatabaseHeader image bytes → IsBadHeader image db → ⊥
header_good image bytes db is has bad = bad.1 (subst (HasDatabaseHeader image) is has)

pub header_first : (image bytes : List ℕ) (db : ℕ) → bytes ≡ header_at image db
    → db < listed_count image → (HasDatabaseHeader image bytes → ⊥)
    → ((k : ℕ) → k < db → IsBadHeader image k → ⊥)
    → FirstBrought (header_faults image) (BadHeader db)
header_first image bytes db is below bad none = inl (
  db,
  record {
    here = (below, λ h. bad (subst (HasDatabaseHeader image) (sym is) h));
    none_below = none;
  },
  refl,
)

-- the headers so far: none is bad, and the table notes where they lie
pub record HeadersSoFar (image : List ℕ) (table : List Body) (db : ℕ) : Type 0 where
  pub none_bad : (earlier : ℕ) → earlier < db → IsBadHeader image earlier → ⊥
  pub noted : (earlier : ℕ) (none : Body) → earlier < db
      → HasBody image (listed_at image earlier) (get_or table earlier none)

pub headers_more : (image : List ℕ) (table new : List Body) (body : Body) (db : ℕ)
    → new ≡ set table db body → db < length table → HasBody image (listed_at image db) body
    → (IsBadHeader image db → ⊥) → HeadersSoFar image table db → HeadersSoFar image new (db + 1)
headers_more image table new body db is inside here good so_far = record {
  none_bad = none_more (IsBadHeader image) db good so_far.none_bad;
  noted = λ earlier none below.
      subst (λ (t : List Body). HasBody image (listed_at image earlier) (get_or t earlier none))
      (sym is) (elim (cases_lt earlier db) [
        | inl less ↦ subst (HasBody image (listed_at image earlier))
            (sym (get_or-set_other table db earlier body none (λ e. omega arith)))
            (so_far.noted earlier none less)
        | inr last ↦ let e : db ≡ earlier = omega arith in
            subst (λ (k : ℕ). HasBody image (listed_at image k) (get_or (set table db body) k none))
            e (subst (HasBody image (listed_at image db))
            (sym (get_or-set_same table db body none inside)) here)
      ]);
}

pub headers_noted : (image directory : List ℕ) (table : List Body) (db : ℕ)
    → IsGoodDirectory image directory → db ≡ listed_count image → db ≤ length table
    → HeadersSoFar image table db → NotesListed image table
headers_noted image directory table db l all room so_far =
    let count : length (take (listed_count image) table) ≡ listed_count image =
    length-take-le (listed_count image) table (omega arith) in
    let few = l.few in
    let same = l.count in
    record {
      heap = l.heap;
      count = count;
      few = omega arith;
      each = λ k body there.
          let within = slice_get_within (take (listed_count image) table) k body there in
          let below : k < listed_count image = omega arith in
          let is : get_or table k body ≡ body =
          sym (get_or-take (listed_count image) table k body below)
          ∙ get_or_from_slice_get (take (listed_count image) table) k body body there in
          subst (HasBody image (listed_at image k)) is (so_far.noted k body (omega arith));
    }

-- ---- entries

pub entry_first : (image bytes header : List ℕ) (index : ℕ) → bytes ≡ header
    → index < entry_count_in bytes → (HasData image (entry_in bytes index) → ⊥)
    → ((k : ℕ) → k < index → HasBadEntry image bytes k → ⊥) → Least (HasBadEntry image header) index
entry_first image bytes header index is below bad none =
    subst (λ (b : List ℕ). Least (HasBadEntry image b) index) is
    (record { here = (below, bad); none_below = none })

-- those of one database more
pub entries_passed : (image : List ℕ) (db : ℕ) → HasGoodEntries image (header_at image db)
    → ((k : ℕ) → k < db → (index : ℕ) → IsBadEntry image k index → ⊥) → (k : ℕ) → k < db + 1
    → (index : ℕ) → IsBadEntry image k index → ⊥
entries_passed image db good none k below index bad = elim (cases_lt k db) [
  | inl less ↦ none k less index bad
  | inr last ↦ let is : k ≡ db = omega arith in good index (rw is at bad.1)
]
