-- Bits of attributes, tested by masks and set.
use Rattle.record_db.proofs.Words.{◌≡◌, ℕ, zero, suc, ◌*◌, ◌<◌, Bool, true, false, refl, ap, ◌∙◌, arith, bit_and, bit_or, ◌==◌, min, is_deleted, is_busy, released, attributes_set}
use Rattle.std.proofs.lemmas.Nat.Bits.{and_pow, bit_at-lt, bit_at_and, bit_at_or}
use Rattle.std.proofs.lemmas.Bool.{eqb-true}
use Rattle.std.specs.Int.{bit_at}

-- ---- tested

busy_test : (bit : ℕ) → bit < 2 → (bit * 32 == 32) ≡ (bit == 1)
busy_test zero below = refl
busy_test (suc zero) below = refl
busy_test (suc (suc bit)) below = absurd (omega arith)

pub busy_by_mask : (busy : Bool) (attributes : ℕ) → busy ≡ (bit_and attributes 32 == 32) → busy ≡ is_busy attributes
busy_by_mask busy attributes is = is ∙ ap (λ (x : ℕ). x == 32) (and_pow attributes 5) ∙ busy_test (bit_at attributes 5) (bit_at-lt attributes 5)

-- ---- set

-- a mask keeps the deleted bit, if it has that
kept_deleted : (attributes mask : ℕ) → bit_at mask 7 ≡ 1 → is_deleted attributes ≡ true → is_deleted (bit_and attributes mask) ≡ true
kept_deleted attributes mask has e = ap (λ (b : ℕ). b == 1) (bit_at_and attributes mask 7 ∙ ap (λ (b : ℕ). min b (bit_at mask 7)) (eqb-true (bit_at attributes 7) 1 e) ∙ ap (λ (b : ℕ). min 1 b) has)

-- and other bits leave it
more_deleted : (attributes more : ℕ) → is_deleted attributes ≡ true → is_deleted (bit_or attributes more) ≡ true
more_deleted attributes more e =
    let bit : bit_at (bit_or attributes more) 7 ≡ 1 = omega (arith, bit_at_or attributes more 7, bit_at-lt more 7, eqb-true (bit_at attributes 7) 1 e) in
    ap (λ (b : ℕ). b == 1) bit

-- a record that is released stays deleted
pub released_deleted : (dirty : Bool) (attributes : ℕ) → is_deleted attributes ≡ true → is_deleted (released dirty attributes) ≡ true
released_deleted false attributes e = kept_deleted attributes 0xDF refl e
released_deleted true attributes e = more_deleted (bit_and attributes 0xDF) 0x40 (kept_deleted attributes 0xDF refl e)

-- and so does one for which attributes are given
pub set_deleted : (given attributes : ℕ) → is_deleted attributes ≡ true → is_deleted (attributes_set given attributes) ≡ true
set_deleted given attributes e = more_deleted (bit_and attributes 0xA0) (bit_and given 0x5F) (kept_deleted attributes 0xA0 refl e)
