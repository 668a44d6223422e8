-- Names of databases in their fields.
use Rattle.laws_store.proofs.Words.{◌≡◌, ℕ, zero, suc, ◌+◌, ◌-◌, ◌<◌, ◌≤◌, Bool, true, cond, List, [], ◌∷◌, ◌++◌, length, take, replicate, refl, sym, ap, ◌∙◌, arith, length-append, take-append-add, ne_eqb, length-replicate, take-take, take-replicate, All-head, All-tail, take_while-cons, ◌==◌, not, All, take_while, name_field, IsDatabaseName, name_in}

pub length-name_field : (name : List ℕ) → IsDatabaseName name → length (name_field name) ≡ 32
unfolding name_field
length-name_field name is =
    let room = is.room in
    simp (length-append, length-replicate) (omega arith)

no_zero : ℕ → Bool
no_zero byte = not (byte == 0)

passes : (x : ℕ) → 0 < x → no_zero x ≡ true
unfolding no_zero
passes x some = ap not (ne_eqb x 0 (λ e. omega arith))

onto : ℕ → List ℕ → List ℕ
onto x xs = x ∷ xs

front_of_zeros : (name : List ℕ) (k : ℕ) → All (λ byte. 0 < byte) name
    → take_while no_zero (name ++ replicate k 0) ≡ name
unfolding no_zero onto
front_of_zeros [] zero all = refl
front_of_zeros [] (suc k) all = take_while-cons no_zero 0 (replicate k 0)
front_of_zeros (x ∷ name) k all =
    take_while-cons no_zero x (name ++ replicate k 0)
    ∙ ap (λ b. cond b (x ∷ take_while no_zero (name ++ replicate k 0)) []) (passes x
    (All-head (λ byte. 0 < byte) x name all))
    ∙ ap (onto x) (front_of_zeros name k (All-tail (λ byte. 0 < byte) x name all))

-- the name in a field is read there
pub name_read : (name bytes : List ℕ) → IsDatabaseName name → take 32 bytes ≡ name_field name
    → name_in bytes ≡ name
unfolding name_field name_in no_zero
name_read name bytes is field =
    let room = is.room in
    let count : ℕ = 31 - length name in
    let e : 31 ≡ length name + count = omega arith in
    let most : count ≤ 32 - length name = omega arith in
    let front = sym (take-take 31 32 bytes (omega arith)) in
    let cut : take 31 (name ++ replicate (32 - length name) 0) ≡ name ++ replicate count 0 =
    ap (λ k. take k (name ++ replicate (32 - length name) 0)) e
    ∙ take-append-add name (replicate (32 - length name) 0) count
    ∙ ap (λ zeros. name ++ zeros) (take-replicate count (32 - length name) 0 most) in
    ap (take_while no_zero) (front ∙ ap (take 31) field ∙ cut) ∙ front_of_zeros name _ is.none_zero
