-- Bits of attributes, tested by masks.
use Rattle.std.proofs.Common.{◌≡◌, ℕ, zero, suc, ◌+◌, ◌*◌, ◌/◌, ◌%◌, ◌^◌, ◌<◌, Bool, refl, ap, ◌∙◌, arith}
use Rattle.std.proofs.lemmas.Bool.{eq-eqb, ne_eqb}
use Rattle.std.proofs.lemmas.Nat.{or_shifted}
use Rattle.std.proofs.lemmas.Nat.Bits.{and_pow, bit_at-lt, bit_at_lowest, and_high_mask}
use Rattle.std.specs.Prelude.{◌==◌}
use Rattle.std.specs.Int.{bit_at}
use Rattle.std.specs.Int.RustNames.{bit_and, bit_or}
use Rattle.heap_model.specs.Database.{is_deleted, has_resources, is_read_only, with_resources_of}

none_of : (m : ℕ) → 0 * m ≡ 0
none_of m = omega arith

one_of : (m : ℕ) → 1 * m ≡ m
one_of m = omega arith

same_test : (bit more : ℕ) → bit < 2 → (bit * (more + 1) == more + 1) ≡ (bit == 1)
same_test zero more below = ap (λ (n : ℕ). n == more + 1) (none_of (more + 1)) ∙ ne_eqb 0 (more + 1) (λ e. omega arith)
same_test (suc zero) more below = eq-eqb (1 * (more + 1)) (more + 1) (one_of (more + 1))
same_test (suc (suc bit)) more below = absurd (omega arith)

-- a bit is set if its mask leaves the mask
by_mask : (k more attributes : ℕ) → 2 ^ k ≡ more + 1 → (bit_and attributes (2 ^ k) == more + 1) ≡ (bit_at attributes k == 1)
by_mask k more attributes is =
    ap (λ (x : ℕ). x == more + 1) (and_pow attributes k) ∙ ap (λ (m : ℕ). bit_at attributes k * m == more + 1) is
    ∙ same_test (bit_at attributes k) more (bit_at-lt attributes k)

pub deleted_by_mask : (deleted : Bool) (attributes : ℕ) → deleted ≡ (bit_and attributes 128 == 128) → deleted ≡ is_deleted attributes
deleted_by_mask deleted attributes is = is ∙ by_mask 7 127 attributes refl

pub resources_by_mask : (resources : Bool) (attributes : ℕ) → resources ≡ (bit_and attributes 1 == 1) → resources ≡ has_resources attributes
resources_by_mask resources attributes is = is ∙ by_mask 0 0 attributes refl

pub read_only_by_mask : (read_only : Bool) (attributes : ℕ) → read_only ≡ (bit_and attributes 2 == 2) → read_only ≡ is_read_only attributes
read_only_by_mask read_only attributes is = is ∙ by_mask 1 1 attributes refl

-- all bits but the lowest are of the one, and that is of the other
pub kind_by_mask : (result other attributes : ℕ) → attributes < 2 ^ 16 → result ≡ bit_or (bit_and attributes 0xFFFE) (bit_and other 1) → result ≡ with_resources_of other attributes
kind_by_mask result other attributes small is =
    let kept : bit_and attributes 0xFFFE ≡ attributes / 2 * 2 ^ 1 = and_high_mask 16 1 (omega arith) attributes small in
    let kind : bit_and other 1 ≡ other % 2 = and_pow other 0 ∙ (let lowest = bit_at_lowest other in omega (arith, lowest)) in
    let both : bit_or (bit_and attributes 0xFFFE) (bit_and other 1) ≡ bit_or (attributes / 2 * 2 ^ 1) (other % 2) =
    ap (λ (x : ℕ). bit_or x (bit_and other 1)) kept ∙ ap (bit_or (attributes / 2 * 2 ^ 1)) kind in
    is ∙ both ∙ or_shifted (attributes / 2) 1 (other % 2) (omega arith) ∙ omega arith
