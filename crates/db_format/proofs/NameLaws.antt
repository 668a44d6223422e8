-- Names and their fields, by their bytes.
use Rattle.std.proofs.Common.{◌≡◌, ◌≢◌, ℕ, zero, suc, ◌+◌, ◌<◌, ◌≤◌, Bool, cond, List, [], ◌∷◌, ◌++◌, length, get_or, take, drop, replicate, refl, sym, ap, ◌∙◌, arith}
use Rattle.std.proofs.lemmas.Bool.{ne_eqb}
use Rattle.std.proofs.lemmas.List.{drop-replicate, take_all}
use Rattle.std.proofs.lemmas.List.Sums.{take_while-cons}
use Rattle.std.specs.Prelude.{◌==◌, not}
use Rattle.std.specs.List.{take_while}
use Rattle.heap_model.specs.Database.{name_field, IsDatabaseName, name_in}
use Rattle.laws_store.proofs.Names.{length-name_field, name_read}
use Rattle.db_format.specs.Names.{IsNameField}

no_zero : ℕ → Bool
no_zero byte = not (byte == 0)

onto : ℕ → List ℕ → List ℕ
onto x xs = x ∷ xs

-- the bytes before the first zero, and at most `most` of them
front_is : (most n : ℕ) (bytes : List ℕ) → n ≤ most → most ≤ length bytes → ((k : ℕ) → k < n → get_or bytes k 0 ≢ 0) → (n < most → get_or bytes n 0 ≡ 0) → take_while no_zero (take most bytes) ≡ take n bytes
unfolding no_zero onto
front_is zero zero bytes upto long before behind = refl
front_is zero (suc n) bytes upto long before behind = absurd (omega arith)
front_is (suc most) n [] upto long before behind = absurd (omega arith)
front_is (suc most) zero (x ∷ bytes) upto long before behind =
    take_while-cons no_zero x (take most bytes) ∙ ap (λ (y : ℕ). cond (not (y == 0)) (x ∷ take_while no_zero (take most bytes)) []) (behind (omega arith))
front_is (suc most) (suc n) (x ∷ bytes) upto long before behind =
    take_while-cons no_zero x (take most bytes)
    ∙ ap (λ (b : Bool). cond (not b) (x ∷ take_while no_zero (take most bytes)) []) (ne_eqb x 0 (before 0 (omega arith)))
    ∙ ap (onto x) (front_is most n bytes (omega arith) (omega arith) (λ k below. before (suc k) (omega arith)) (λ below. behind (omega arith)))

pub name_in_front : (bytes : List ℕ) (n : ℕ) → 32 ≤ length bytes → n < 32 → ((k : ℕ) → k < n → get_or bytes k 0 ≢ 0) → (n + 1 < 32 → get_or bytes n 0 ≡ 0) → take n bytes ≡ name_in bytes
unfolding name_in no_zero
name_in_front bytes n long most before behind = sym (front_is 31 n bytes (omega arith) (omega arith) before (λ below. behind (omega arith)))

-- a name that is copied over zeros makes its field
pub padded_field : (name front : List ℕ) → front ≡ name → front ++ drop (length name) (replicate 32 0) ≡ name_field name
unfolding name_field
padded_field name front is = ap (λ (bs : List ℕ). bs ++ drop (length name) (replicate 32 0)) is ∙ ap (λ (bs : List ℕ). name ++ bs) (drop-replicate (length name) 32 0)

pub name_of_field : (name bytes : List ℕ) → IsDatabaseName name → bytes ≡ name_field name → name_in bytes ≡ name
name_of_field name bytes is field = name_read name bytes is (take_all 32 bytes (let len = length-name_field name is in let same = ap length field in omega arith) ∙ field)

pub is_field : (name bytes : List ℕ) → IsDatabaseName name → bytes ≡ name_field name → IsNameField bytes
is_field name bytes is field = let same = name_of_field name bytes is field in record { name = rw same is; field = field ∙ sym (ap name_field same) }
