-- The unique IDs of records, by the indexes of their entries.
use Rattle.laws_store.proofs.Words.{◌≡◌, ℕ, zero, suc, ◌+◌, ◌<◌, ◌≤◌, List, [], ◌∷◌, Some, sym, ap, ◌∙◌, arith, inl, inr, cases_eq, cases_lt, filter_map-append, filter_map, times, numbered, Entry, a_record, a_resource, unique_id}
use Rattle.laws_store.proofs.Times.{same-yes, same-no, times-cons, times-append}
use Rattle.laws_store.proofs.Numbers.{numbered_more}

-- those of the entries before an index
abbrev pub ids_upto : (ℕ → Entry ℕ) → ℕ → List ℕ
ids_upto each n = filter_map unique_id (numbered each n)

ids_of : Entry ℕ → List ℕ
ids_of entry = filter_map unique_id (entry ∷ [])

ids_more : (each : ℕ → Entry ℕ) (q n : ℕ)
    → times q (ids_upto each (suc n)) ≡ times q (ids_upto each n) + times q (ids_of (each n))
unfolding ids_of
ids_more each q n =
    ap (λ (entries : List (Entry ℕ)). times q (filter_map unique_id entries)) (numbered_more each n)
    ∙ ap (times q) (filter_map-append unique_id (numbered each n) (each n ∷ []))
    ∙ times-append q (ids_upto each n) (filter_map unique_id (each n ∷ []))

one_id : (entry : Entry ℕ) (q : ℕ) → unique_id entry ≡ Some q → times q (ids_of entry) ≡ 1
unfolding ids_of
one_id (a_record attributes id slot) q e =
    let is : id ≡ q = cc in let cons = times-cons q id [] in let yes = same-yes id q is in
    omega arith
one_id (a_resource kind id slot) q e = absurd cc

id_one : (entry : Entry ℕ) (q : ℕ) → 0 < times q (ids_of entry)
    → (unique_id entry ≡ Some q) × (times q (ids_of entry) ≡ 1)
unfolding ids_of
id_one (a_record attributes id slot) q some =
    let cons = times-cons q id [] in
    elim (cases_eq id q) [
      | inl e ↦ let yes = same-yes id q e in (ap (λ (i : ℕ). Some i) e, omega arith)
      | inr ne ↦ let no = same-no id q ne in absurd (omega arith)
    ]
id_one (a_resource kind id slot) q some = absurd (omega arith)

-- an ID that stands in the list is that of an index
pub ids_index : (each : ℕ → Entry ℕ) (q n : ℕ) → 0 < times q (ids_upto each n)
    → (k : ℕ) × (k < n) × (unique_id (each k) ≡ Some q)
ids_index each q zero some = absurd (omega arith)
ids_index each q (suc n) some =
    let more = ids_more each q n in
    elim (cases_lt 0 (times q (ids_of (each n)))) [
      | inl here ↦ (n, omega arith, (id_one (each n) q here).0)
      | inr none ↦
          let ih = ids_index each q n (omega arith) in
          (ih.0, (let below = ih.1 in omega arith), ih.2)
    ]

pub index_ids : (each : ℕ → Entry ℕ) (q n k : ℕ) → k < n → unique_id (each k) ≡ Some q
    → 0 < times q (ids_upto each n)
index_ids each q zero k below e = absurd (omega arith)
index_ids each q (suc n) k below e = let more = ids_more each q n in elim (cases_lt k n) [
  | inl less ↦ let ih = index_ids each q n k less e in omega arith
  | inr last ↦
      let is : k ≡ n = omega arith in
      let one = one_id (each n) q (sym (ap (λ i. unique_id (each i)) is) ∙ e) in
      omega arith
]

-- the ID of one index is no other's exactly if each stands in the list once at most
pub ids_once : (each : ℕ → Entry ℕ) (n : ℕ)
    → ((i j q : ℕ) → i < n → j < i → unique_id (each j) ≡ Some q → unique_id (each i) ≡ Some q → ⊥)
    → (q : ℕ) → times q (ids_upto each n) ≤ 1
ids_once each zero apart q = omega arith
ids_once each (suc n) apart q =
    let more = ids_more each q n in
    let ih =
    ids_once each n (λ i j p below less one other. apart i j p (omega arith) less one other) q in
    elim (cases_lt 0 (times q (ids_of (each n)))) [
      | inl here ↦
          let last = id_one (each n) q here in
          let one = last.1 in
          elim (cases_lt 0 (times q (ids_upto each n))) [
            | inl some ↦
                let first = ids_index each q n some in
                absurd (apart n first.0 q (omega arith) first.1 first.2 last.0)
            | inr none ↦ omega arith
          ]
      | inr none ↦ omega arith
    ]

pub once_ids : (each : ℕ → Entry ℕ) (n i j q : ℕ) → i < n → j < i → unique_id (each j) ≡ Some q
    → unique_id (each i) ≡ Some q → 1 < times q (ids_upto each n)
once_ids each zero i j q below less one other = absurd (omega arith)
once_ids each (suc n) i j q below less one other =
    let more = ids_more each q n in
    elim (cases_lt i n) [
      | inl earlier ↦ let ih = once_ids each n i j q earlier less one other in omega arith
      | inr last ↦
          let is : i ≡ n = omega arith in
          let here = one_id (each n) q (sym (ap (λ (k : ℕ). unique_id (each k)) is) ∙ other) in
          let there = index_ids each q n j (omega arith) one in
          omega arith
    ]
