-- The lines of a text that only an exact folder has, and the line of an entry.
use Rattle.file_parts.proofs.AllWords.{◌≡◌, ℕ, zero, suc, ◌-◌, ◌≤◌, true, false, cond, Some, None, List, [], ◌∷◌, ◌++◌, length, take, drop, refl, ap, arith, ◌==◌, codes, replicate, list_all, and_parts, length-take-le, take-append-drop, length-drop, drop-append_seam, encode_lower, Entry, a_record, a_resource, HasName, IsDatabaseName, entry_data, entry_with, name_field, name_in, filler_in, filler_line, filler_name, after_name_text, filler_text, Blob, cases_Bool, inl, inr}

abbrev after_of : List ℕ → List ℕ
after_of file = drop (length (name_in file)) (take 32 file)

zeros_are : (n : ℕ) → list_all (λ byte. byte == 0) (replicate n 0) ≡ true
zeros_are zero = refl
zeros_are (suc n) = zeros_are n

pub all_zeros : (xs : List ℕ) → list_all (λ byte. byte == 0) xs ≡ true
    → replicate (length xs) 0 ≡ xs
all_zeros [] is = refl
all_zeros (x ∷ xs) is =
    let parts = and_parts (x == 0) (list_all (λ byte. byte == 0) xs) is in
    let none : 0 ≡ x = grind arith in
    cc (all_zeros xs parts.1)

-- only zeros come after the name
pub no_line : (file : List ℕ) → HasName file → after_name_text file ≡ []
unfolding name_field
no_line file has =
    let name : List ℕ = name_in file in
    let first = drop-append_seam name (replicate (32 - length name) 0) in
    let is : after_of file ≡ replicate (32 - length name) 0 = cc has.field in
    let zeros : list_all (λ byte. byte == 0) (after_of file) ≡ true =
    cc (zeros_are (32 - length name)) in
    rw zeros refl

-- other bytes come after it
pub some_line : (file : List ℕ) → 32 ≤ length file → IsDatabaseName (name_in file)
    → take (length (name_in file)) (take 32 file) ≡ name_in file → (HasName file → ⊥)
    → after_name_text file ≡ codes "namefield " ++ (encode_lower (after_of file) ++ codes "\n")
unfolding name_field
some_line file long valid front none =
    elim (cases_Bool (list_all (λ byte. byte == 0) (after_of file))) [
      | inl is ↦
          let name : List ℕ = name_in file in
          let field = length-take-le 32 file long in
          let rest = length-drop (length name) (take 32 file) in
          let left : length (after_of file) ≡ 32 - length name = omega arith in
          absurd (none (record {
            name = valid;
            field =
                cc (take-append-drop (length name) (take 32 file), all_zeros (after_of file) is);
          }))
      | inr is ↦ rw is refl
    ]

-- ---- the line of an entry

pub with_twice : (entry : Entry ℕ) (block part : Blob) → entry_with {Data = ℕ} (λ _. part) entry
    ≡ entry_with (λ _. part) (entry_with (λ _. block) entry)
with_twice (a_record a id at) block part = refl
with_twice (a_resource kind id at) block part = refl

pub data_with : (entry : Entry ℕ) (block : Blob)
    → entry_data (entry_with {Data = ℕ} (λ _. block) entry) ≡ block
data_with (a_record a id at) block = refl
data_with (a_resource kind id at) block = refl

-- ---- the line of the filler

pub filler_none : (file : List ℕ) → (length (filler_in file) == 0) ≡ true
    → filler_text file ≡ codes "filler none\n"
filler_none file is = ap (λ b. filler_line (cond b None (Some filler_name))) is

pub filler_some : (file : List ℕ) → (length (filler_in file) == 0) ≡ false
    → filler_text file ≡ codes "filler filler\n"
filler_some file is = ap (λ b. filler_line (cond b None (Some filler_name))) is
