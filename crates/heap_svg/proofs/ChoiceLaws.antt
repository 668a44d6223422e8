-- Texts of which a test chooses one.
use Rattle.heap_svg.proofs.Words.{◌≡◌, ℕ, cond, List, Bool, true, false, Option, sym, subst, ◌∙◌, arith, nat_eq, nat_tests, Writing, Writes}

-- the test is a function's result
pub when_yes : {W : Type 0} (contents : W → Option (List ℕ)) (old new : Writing W)
    (test result : Bool) (a b : List ℕ) (ok : Bool) → result ≡ test → result ≡ true
    → Writes contents old new a ok → Writes contents old new (cond test a b) ok
when_yes contents old new test result a b ok is holds w =
    subst (λ (x : Bool). Writes contents old new (cond x a b) ok) (sym holds ∙ is) w

pub when_no : {W : Type 0} (contents : W → Option (List ℕ)) (old new : Writing W)
    (test result : Bool) (a b : List ℕ) (ok : Bool) → result ≡ test → result ≡ false
    → Writes contents old new b ok → Writes contents old new (cond test a b) ok
when_no contents old new test result a b ok is fails w =
    subst (λ (x : Bool). Writes contents old new (cond x a b) ok) (sym fails ∙ is) w

-- the test is whether there are any
zero_yes : (count : ℕ) (a b : List ℕ) → count ≡ 0 → cond (nat_eq count 0) a b ≡ a
zero_yes count a b none = grind (arith, nat_tests)

zero_no : (count : ℕ) (a b : List ℕ) → (count ≡ 0 → ⊥) → cond (nat_eq count 0) a b ≡ b
zero_no count a b some = grind (arith, nat_tests)

pub when_none : {W : Type 0} (contents : W
    → Option (List ℕ)) (old new : Writing W) (count : ℕ) (a b : List ℕ) (ok : Bool) → count ≡ 0
    → Writes contents old new a ok → Writes contents old new (cond (nat_eq count 0) a b) ok
when_none contents old new count a b ok none w = rw (zero_yes _ a b none) w

pub when_some : {W : Type 0} (contents : W → Option (List ℕ)) (old new : Writing W) (count : ℕ)
    (a b : List ℕ) (ok : Bool) → (count ≡ 0 → ⊥) → Writes contents old new b ok
    → Writes contents old new (cond (nat_eq count 0) a b) ok
when_some contents old new count a b ok some w = rw (zero_no count a b some) w
