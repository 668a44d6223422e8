-- `marks_needed` is enough: a quarter of the length with a chain, else 65535.
use Rattle.heap_check.proofs.Words.{◌≡◌, ℕ, ◌/◌, ◌<◌, ◌≤◌, Bool, true, false, cond, List, length, ap, arith, is_chained, marks_needed}

pub needed_chained : (image : List ℕ) → is_chained image ≡ true
    → marks_needed image ≡ length image / 4
needed_chained image is = ap (λ (b : Bool). cond {A = ℕ} b (length image / 4) 65535) is

pub needed_plain : (image : List ℕ) → is_chained image ≡ false → marks_needed image ≡ 65535
needed_plain image is = ap (λ (b : Bool). cond {A = ℕ} b (length image / 4) 65535) is

-- of what has no frame
pub needed_short : (image : List ℕ) → length image < 16 → marks_needed image ≤ 65535
needed_short image short = either (is_chained image) where
  either : (b : Bool) → cond {A = ℕ} b (length image / 4) 65535 ≤ 65535
  either true = omega arith
  either false = omega arith
