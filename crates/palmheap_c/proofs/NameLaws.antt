-- The name of a database, from the field of C.
use Rattle.palmheap_c.proofs.Words.{◌≡◌, ◌≤◌, ℕ, List, ◌++◌, length, take, drop, replicate, min, sym, ap, ◌∙◌, inl, inr, arith, length-take, take_all, cases_lt, drop-replicate, name_field}

pub name_told : (bytes : List ℕ) (count : ℕ) → length bytes ≡ 32
    → take 32 (take (min 32 count) bytes) ≡ take count bytes
name_told bytes count size = elim (cases_lt count 32) [
  | inl less ↦
      let least : min 32 count ≡ count = omega arith in
      let long : length (take count bytes) ≤ 32 = let l = length-take count bytes in omega arith in
      ap (λ (n : ℕ). take 32 (take n bytes)) least ∙ take_all 32 (take count bytes) long
  | inr le ↦
      let least : min 32 count ≡ 32 = omega arith in
      let long : length (take 32 bytes) ≤ 32 = let l = length-take 32 bytes in omega arith in
      ap (λ (n : ℕ). take 32 (take n bytes)) least ∙ take_all 32 (take 32 bytes) long
      ∙ take_all 32 bytes (omega arith) ∙ sym (take_all count bytes (omega arith))
]

-- the name and the zeros after it are the field of the name
pub field_filled : (name : List ℕ) → name ++ drop (length name) (replicate 32 0) ≡ name_field name
unfolding name_field
field_filled name = ap (λ (rest : List ℕ). name ++ rest) (drop-replicate (length name) 32 0)
