-- Laws on numbers that digits spell.
use Rattle.std.proofs.Common.{◌≡◌, ◌+◌, ◌*◌, ◌<◌, ◌≤◌, ℕ, List, [], ◌∷◌, Bool, true, false, refl, ap, arith, rules, tests}
use Rattle.std.specs.Prelude.{Option, Some, None, Result, Ok, Err, nat_lt}
use Rattle.std.specs.Result.{OkIff, result_ok}
use Rattle.std.proofs.Math.Nat.{mul-le-mul_left}
use Rattle.script_lines.specs.Spellings.{below, number_behind, digit_value}

more : (base n v : ℕ) → 0 < base → n ≤ n * base + v
more base n v some = let times : n * 1 ≤ n * base = mul-le-mul_left n (omega arith) in omega arith

-- digits after a number that is too great spell none that is below the limit
pub below_beyond : (base n limit : ℕ) (digits : List ℕ) → 0 < base → limit ≤ n → below limit (number_behind base n digits) ≡ None
below_beyond base n limit [] some beyond = let e : nat_lt n limit ≡ false = search (rules, tests) in rw e refl
below_beyond base n limit (digit ∷ digits) some beyond = by_digit (nat_lt (digit_value digit) base) refl (λ m far. below_beyond base m limit digits some far)
  where
    by_digit : (v : Bool) → nat_lt (digit_value digit) base ≡ v → ((m : ℕ) → limit ≤ m → below limit (number_behind base m digits) ≡ None) → below limit (number_behind base n (digit ∷ digits)) ≡ None
    by_digit true e go = rw e (let at_least = more base n (digit_value digit) some in go (n * base + digit_value digit) (omega arith))
    by_digit false e go = rw e refl

-- a limit within a greater one
pub below_below : (limit greater : ℕ) (number : Option ℕ) → limit ≤ greater → below limit (below greater number) ≡ below limit number
below_below limit greater None within = refl
below_below limit greater (Some n) within = by_test (nat_lt n greater) refl
  where
    by_test : (v : Bool) → nat_lt n greater ≡ v → below limit (below greater (Some n)) ≡ below limit (Some n)
    by_test true e = rw e refl
    by_test false e = let beyond : nat_lt n limit ≡ false = search (rules, tests) in rw (e, beyond) refl

-- a number that was tried as one of a narrower type
pub below_tried : {E : Type 0} (limit n : ℕ) (tried : Result ℕ E) → OkIff tried (n < limit) n → result_ok tried ≡ below limit (Some n)
below_tried limit n (Ok x) (within, same) = let e : nat_lt n limit ≡ true = search (rules, tests) in rw e (ap Some same)
below_tried limit n (Err x) beyond = let e : nat_lt n limit ≡ false = search (rules, tests) in rw e refl
