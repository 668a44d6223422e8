-- Where blocks begin that come in an order, one after the other, and entries with their offsets.
use Rattle.file_parts.proofs.AllWords.{◌≡◌, ℕ, zero, suc, ◌+◌, ◌<◌, List, [], ◌∷◌, ◌++◌, length, get_or, refl, ap, ◌∙◌, arith, length-append, ◌==◌, flat_map, eq-eqb, ne_eqb, times, Entry, a_record, a_resource, entry_with, block_bytes, block_size, same-yes, times-cons, entries_placed, offset_among, Blob, cases_Bool, inl, inr}

-- the block of one more rank begins after the others
pub offset_last : (block : ℕ → Blob) (at : ℕ) (ranks : List ℕ) (rank : ℕ) → times rank ranks ≡ 0
    → offset_among block at (ranks ++ rank ∷ []) rank
    ≡ at + length (flat_map (λ r. block_bytes (block r)) ranks)
offset_last block at [] rank none =
    let same : at ≡ at + 0 = omega arith in
    rw (eq-eqb rank rank refl) same
offset_last block at (x ∷ ranks) rank none =
    let total = times-cons rank x ranks in
    let other : x ≡ rank → ⊥ = λ is. omega (arith, same-yes x rank is) in
    let more = offset_last block (at + block_size (block x)) ranks rank (omega arith) in
    let long =
    length-append (block_bytes (block x)) (flat_map (λ r. block_bytes (block r)) ranks) in
    rw (ne_eqb x rank other) (more ∙ omega arith)

-- the others stay where they are
pub offset_other : (block : ℕ → Blob) (at : ℕ) (ranks : List ℕ) (rank k : ℕ) → (rank ≡ k → ⊥)
    → offset_among block at (ranks ++ rank ∷ []) k ≡ offset_among block at ranks k
offset_other block at [] rank k other = rw (ne_eqb rank k other) refl
offset_other block at (x ∷ ranks) rank k other = elim (cases_Bool (x == k)) [
  | inl is ↦ rw is refl
  | inr is ↦ rw is (offset_other block (at + block_size (block x)) ranks rank k other)
]

-- ---- entries

-- the entry at an index, with the offset of its rank
pub placed_at : (place : ℕ → ℕ) (rank k : ℕ) (es : List (Entry Blob)) (d : Entry Blob) (e : Entry ℕ)
    → k < length es
    → get_or (entries_placed place rank es) k e ≡ entry_with (λ _. place (rank + k)) (get_or es k d)
placed_at place rank k [] d e inside = absurd (omega arith)
placed_at place rank zero (x ∷ es) d e inside =
    let same : rank ≡ rank + 0 = omega arith in
    ap (λ r. entry_with {Data = Blob} (λ _. place r) x) same
placed_at place rank (suc k) (x ∷ es) d e inside =
    let next : rank + 1 + k ≡ rank + suc k = omega arith in
    placed_at place (rank + 1) k es d e (omega arith) ∙ ap (λ r.
    entry_with {Data = Blob} (λ _. place r) (get_or es k d)) next

pub length-placed : (place : ℕ → ℕ) (rank : ℕ) (es : List (Entry Blob))
    → length (entries_placed place rank es) ≡ length es
length-placed place rank [] = refl
length-placed place rank (e ∷ es) = omega (arith, length-placed place (rank + 1) es)

-- an entry with another offset, and then with this one
pub placed_twice : {Data : Type 0} (entry : Entry ℕ) (f : ℕ → Data) (at : ℕ)
    → entry_with {Data = Data} (λ _. at) (entry_with f entry) ≡ entry_with (λ _. at) entry
placed_twice (a_record a id slot) f at = refl
placed_twice (a_resource kind id slot) f at = refl
